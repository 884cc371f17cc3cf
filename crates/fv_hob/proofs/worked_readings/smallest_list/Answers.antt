use Rattle.std.proofs.Common.{[], ◌∷◌, refl}
use Rattle.fv_base.proofs.Laws.{arith}
use Rattle.fv_hob.specs.Words.{end_block, end_bytes, table, table_bytes}
use Rattle.fv_hob.proofs.BlockReadings.{end_is, table_is}
use Rattle.fv_hob.proofs.worked_readings.smallest_list.Goals as goal

pub returns : goal.returns
returns c = record {
  before = table ∷ [];
  last = end_block;
  ends = refl;
  joined = (table_bytes, end_bytes, refl, table_is, (end_bytes, [], refl, end_is, refl));
  begins = refl;
  others = (λ ends. omega (arith, ends), tt);
  last_is = refl;
}
