use Rattle.std.proofs.Common.{arith, eq-eqb}
use Rattle.fv_base.proofs.Laws.{common_steps, not_equal}
use Rattle.std.proofs.lemmas.List.Sums.{count_by_more_no, count_by_more_yes}
use Rattle.fv_lines.proofs.check_text.written_in.Goals as goal

pub loop-byte-preserved-then-byte-erased : goal.loop-byte-preserved-then-byte-erased
loop-byte-preserved-then-byte-erased c = grind (arith, common_steps, count_by_more_no, eq-eqb)

pub loop-byte-preserved : goal.loop-byte-preserved
loop-byte-preserved c = grind (arith, common_steps, count_by_more_yes, not_equal)
