use Rattle.fv_file.proofs.LostMarkLemmas.{lost_of}
use Rattle.fv_file.proofs.MarkDifferenceLemmas.{differ_of, one_lost, other_lost}
use Rattle.fv_file.proofs.further_laws.marks_do_not_matter.Goals as goal

pub returns-clause-same : goal.returns-clause-same
returns-clause-same c s p first places others a b o x cells ds eights eights' marks tiles marks' tiles' differ =
    one_lost s p first cells ds b o x
    (other_lost s p first cells a b o (lost_of s p first a eights places o cells marks tiles) differ)
    (lost_of s p first b eights' others x ds marks' tiles')

pub returns-clause-differ : goal.returns-clause-differ
returns-clause-differ c s p first places others a b o cells eights eights' small small' marks marks' tiles =
    differ_of s p first cells a b o small small' (lost_of s p first a eights places o cells marks tiles)
    (lost_of s p first b eights' others o cells marks' tiles)
