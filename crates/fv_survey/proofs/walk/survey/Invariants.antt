use Rattle.std.proofs.Common.{◌≡◌, ◌++◌, length}
use Rattle.fv_survey.specs.Words.{survey_of}
use Rattle.fv_survey.proofs.walk.survey.Given as goal

abbrev pub invariant-loop-rows : goal.invariant-loop-rows
invariant-loop-rows l = l.rows.items ++ l.walk ≡ survey_of l.fn.image

abbrev pub decreases-loop-rows : goal.decreases-loop-rows
decreases-loop-rows l = length l.walk
