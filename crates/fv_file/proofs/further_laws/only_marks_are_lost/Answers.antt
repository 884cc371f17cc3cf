use Rattle.fv_file.proofs.LostMarkLemmas.{lost_of}
use Rattle.fv_file.proofs.further_laws.only_marks_are_lost.Goals as goal

pub returns : goal.returns
returns c s p first places body o cells in_eights marks tiles = lost_of s p first body in_eights places o cells marks tiles
