use Rattle.std.proofs.lemmas.Grind.{common_steps}
use Rattle.std.proofs.Common.{arith}
use Rattle.fv_base.proofs.Laws.{on_ok_weaker}
use Rattle.fv_hob.proofs.WriteLemmas.{no_field, one_field}
use Rattle.fv_hob.proofs.write.push_span.Goals as goal

pub returns : goal.returns
returns c = grind (arith, common_steps, one_field, no_field, on_ok_weaker)
