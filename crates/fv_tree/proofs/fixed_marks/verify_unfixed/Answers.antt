use Rattle.std.proofs.Common.{ℕ, List, arith, inl}
use Rattle.fv_base.proofs.Laws.{nat_tests, err_is}
use Rattle.fv_tree.specs.Words.{IsUnfixed}
use Rattle.fv_head.proofs.Laws.{first_lies}
use Rattle.fv_tree.proofs.FixedMarkLaws.{is_unfixed, stops_there}
use Rattle.fv_tree.proofs.UnfixedInputLaws.{bytes_follow, stopped}
use Rattle.fv_tree.proofs.fixed_marks.verify_unfixed.Goals.{In_ok-verify_unmarked}
use Rattle.fv_tree.proofs.fixed_marks.verify_unfixed.Goals as goal

-- if the cells of the changed body are read, the input has an unfixed copy
made : (c : In_ok-verify_unmarked) → (o : List ℕ) × IsUnfixed c.args.input.now o
made c =
    let tiled = c.in_ok-verify_unmarked.ensures.tiled in
    (_, is_unfixed _ _ _ c.in_ok-extent.ensures.found.1 tiled.1 tiled.0 tiled.2 tiled.3.0 tiled.3.1)

pub returns-in_err-extent-clause-err : goal.returns-in_err-extent-clause-err
returns-in_err-extent-clause-err c = rw (err_is c.from_residual.ensures.1) (stopped c.args.input.now _ (inl c.in_err-extent.ensures.first))

pub returns-in_err-verify_unmarked-clause-err : goal.returns-in_err-verify_unmarked-clause-err
returns-in_err-verify_unmarked-clause-err c =
    let h = c.in_err-verify_unmarked.ensures.first in
    let stops = stops_there _ _ _ c.in_ok-extent.ensures.found.1 h.1 h.0 h.2 _ h.3 h.4 in
    rw (err_is c.from_residual-in_err-verify_unmarked.ensures.1) (stopped c.args.input.now _ stops)

pub returns-in_err-check-clause-err : goal.returns-in_err-check-clause-err
returns-in_err-check-clause-err c =
    let o = made (goal.at.returns-in_err-check-clause-err c).In_ok-verify_unmarked in
    let fails = c.in_err-check.ensures.err in
    rw (err_is c.from_residual-in_err-check.ensures.1) (bytes_follow _ o.0 _ _ _ o.1 c.in_ok-extent.ensures.found.1 fails.0 fails.1)

pub returns-clause-ok : goal.returns-clause-ok
returns-clause-ok c =
    let o = made (goal.at.returns-clause-ok c).In_ok-verify_unmarked in
    (o.0, (o.1, (_, _, c.in_ok-extent.ensures.found.1, grind (arith, nat_tests, c.in_ok-check.ensures.ok))))

pub slice_bounds-body-count : goal.slice_bounds-body-count
slice_bounds-body-count c = (first_lies _ _ _ c.in_ok-extent.ensures.found.1).1

pub slice_bounds-body-start : goal.slice_bounds-body-start
slice_bounds-body-start c = (first_lies _ _ _ c.in_ok-extent.ensures.found.1).1
