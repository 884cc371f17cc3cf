use Rattle.fv_base.proofs.Laws.{err_is, First}
use Rattle.fv_section.proofs.FrameWalkLemmas.{none_after, walk_begins}
use Rattle.fv_section.proofs.StreamLemmas.{one_split}
use Rattle.fv_section.proofs.frame_walk.FrameWalk.of.Goals as goal

pub returns-in_err-left-clause-none : goal.returns-in_err-left-clause-none
returns-in_err-left-clause-none c =
    rw (err_is c.from_residual.ensures.1) (λ fs tail split. none_after First c.args.stream.now _ fs tail c.in_err-left.ensures.first split)

pub invariant_of-result : goal.invariant_of-result
invariant_of-result c = (walk_begins c.args.stream.now c.in_ok-left.left c.in_ok-left.tail c.in_ok-left.ensures.found).1

pub returns-clause-found : goal.returns-clause-found
returns-clause-found c = (walk_begins c.args.stream.now c.in_ok-left.left c.in_ok-left.tail c.in_ok-left.ensures.found).0

pub returns-clause-only : goal.returns-clause-only
returns-clause-only c = λ fs tail split.
    let found = walk_begins c.args.stream.now c.in_ok-left.left c.in_ok-left.tail c.in_ok-left.ensures.found in
    one_split 0 fs _ tail c.in_ok-left.tail c.args.stream.now split found.0
