-- The blocks of the worked readings, and the first fault after some blocks.
use Rattle.std.proofs.Common.{◌≡◌, ◌+◌, ◌*◌, ◌^◌, ◌++◌, ◌==◌, List, ℕ, Some, length, refl, lit<, lit≤}
use Rattle.fv_base.proofs.Laws.{AllByRecursion, IsBytes, bytes_append, bytes_le_bytes, bytes_replicate, first_is, le_bytes, replicate}
use Rattle.fv_base.specs.inner.Verdicts.{first_fault}
use Rattle.fv_hob.specs.Words.{BeginWithTable, HobForm, IsFirstHobFault, IsHob, IsNotEndHob, JoinsHobs, hob_checks}
use Rattle.fv_hob.specs.Words.{end_block, end_bytes, hob_fault_at, table, table_bytes}
use Rattle.fv_hob.specs.declared.fault.HobFaultKind.{HobFaultKind}

-- the bytes of a number are bytes
table_small : IsBytes table_bytes
table_small = bytes_append (le_bytes 9 (9 * 2 ^ 64 + 0x380001)) (replicate 47 0) (bytes_le_bytes 9 (9 * 2 ^ 64 + 0x380001)) (bytes_replicate 47 0 (lit< tt))

end_small : IsBytes end_bytes
end_small = bytes_le_bytes 8 0x8ffff

pub table_is : IsHob table table_bytes
table_is = record {
  block = record { bytes = table_small; sized = refl; multiple = refl; least = lit≤ tt; shaped = refl };
  hob_is = refl;
}

pub end_is : IsHob end_block end_bytes
end_is = record {
  block = record { bytes = end_small; sized = refl; multiple = refl; least = lit≤ tt; shaped = refl };
  hob_is = refl;
}

-- after these blocks, the first check that fails for the block at the start of r has this kind of fault
pub fault_after : (before : List HobForm) (c r : List ℕ) (kind : HobFaultKind) → JoinsHobs before c → BeginWithTable before
    → AllByRecursion IsNotEndHob before → first_fault (hob_checks (length before == 0) r) ≡ Some kind
    → IsFirstHobFault (c ++ r) (hob_fault_at kind (length c))
fault_after before c r kind joins begins others fails = record {
  before = before;
  c = c;
  r = r;
  joined = refl;
  read = joins;
  begins = begins;
  others = others;
  place = refl;
  kind_is = first_is (hob_checks (length before == 0) r) kind fails;
}
