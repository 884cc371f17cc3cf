use Rattle.std.proofs.Common.{length}
use Rattle.fv_survey.specs.Words.{body_files, layout_of}
use Rattle.fv_survey.proofs.NameLaws.{InWalk}
use Rattle.fv_survey.proofs.names.files_of.Given as goal

-- the files that were passed are in the vector, and the files in the rest are left
abbrev pub invariant-loop-rest : goal.invariant-loop-rest
invariant-loop-rest l = InWalk (layout_of l.fn.parts) (length l.bytes) l.at l.rest l.files.items (body_files l.fn.parts l.bytes)

abbrev pub decreases-loop-rest : goal.decreases-loop-rest
decreases-loop-rest l = length l.rest
