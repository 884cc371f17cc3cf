use Rattle.std.proofs.Common.{[], None, refl, subst, lit≤}
use Rattle.fv_base.proofs.Laws.{arith}
use Rattle.fv_tree.specs.Words.{Meaning, NoFiles, Volume}
use Rattle.fv_canon.specs.Words.{AreStarts, IsImage, empty_volume, head}
use Rattle.fv_canon.proofs.Examples.{empty_image}
use Rattle.fv_canon.proofs.ImageLaws.{image_is}
use Rattle.fv_canon.proofs.ReadingSteps.{empty_read, smallest_read}
use Rattle.fv_canon.proofs.worked_readings.accepted_volumes.Goals as goal

pub returns-clause-smallest : goal.returns-clause-smallest
returns-clause-smallest c = smallest_read

pub returns-clause-empty : goal.returns-clause-empty
returns-clause-empty c = empty_read

pub returns-clause-image : goal.returns-clause-image
returns-clause-image c =
    let m : Meaning = Volume (head 128 None) NoFiles in
    let starts : AreStarts m [] = record { placement = record { room = lit≤ tt; follow = tt }; least = λ others i placed same. omega arith } in
    (m, empty_read, subst (IsImage m) empty_image (image_is m [] (8, lit≤ tt, empty_volume, empty_read.0, empty_read.1) ([], [], refl, starts, refl)))
