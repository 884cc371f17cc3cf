use Rattle.fv_survey_lines.specs.Words.{spaces}
use Rattle.fv_survey_lines.proofs.row_text.put_indent.Given as goal

-- once the spaces that are left are put, all spaces are put
abbrev pub invariant-loop-left : goal.invariant-loop-left
invariant-loop-left g l = (end : _) → g.S.Sink.takes l.out (spaces l.left) end → g.S.Sink.takes l.initial.out (spaces l.fn.depth) end

abbrev pub decreases-loop-left : goal.decreases-loop-left
decreases-loop-left g l = l.left
