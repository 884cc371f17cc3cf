use Rattle.fv_base.proofs.Laws.{inl, sym, Err, IfErr, Ok, OnOk, Result, IfErr-weaker, on_ok_weaker, err_is, arith, common_steps}
use Rattle.fv_base.specs.declared.fault.Fault.{Fault}
use Rattle.fv_head.proofs.Laws.{first_lies}
use Rattle.fv_tree.proofs.FixedMarkLaws.{is_unfixed, none_unfixed, only_unfixed, same_body, stops_there, unchanged}
use Rattle.fv_tree.proofs.fixed_marks.unfix.Goals as goal

-- a fact that holds after Ok and after an error holds always
always : {A P : Type 0} (r : Result A Fault) → OnOk r P → IfErr r (λ _. P) → P
always (Ok x) done kept = done
always (Err f) done kept = kept

pub returns-in_err-extent-clause-none : goal.returns-in_err-extent-clause-none
returns-in_err-extent-clause-none c = rw (err_is c.from_residual.ensures.1) (none_unfixed c.args.bytes.now _ (inl c.in_err-extent.ensures.first))

pub returns-clause-done : goal.returns-clause-done
returns-clause-done c =
    on_ok_weaker c.unmark_files.result (λ tiled. is_unfixed _ _ _ c.in_ok-extent.ensures.found.1 _ tiled.0 tiled.1 tiled.2.0 tiled.2.1)
    c.unmark_files.ensures.tiled

pub returns-clause-only : goal.returns-clause-only
returns-clause-only c = on_ok_weaker c.unmark_files.result (λ is o other. only_unfixed c.args.bytes.now _ o is other) (returns-clause-done c)

pub returns-clause-kept : goal.returns-clause-kept
returns-clause-kept c =
    IfErr-weaker c.unmark_files.result _ _ (λ f same. rw same (same_body _ _ _ c.in_ok-extent.ensures.found.1)) c.unmark_files.ensures.kept

pub returns-clause-stops : goal.returns-clause-stops
returns-clause-stops c =
    IfErr-weaker c.unmark_files.result _ _ (λ f h. stops_there _ _ _ c.in_ok-extent.ensures.found.1 h.1 h.0 h.2 f h.3 h.4)
    c.unmark_files.ensures.first

pub returns-clause-none : goal.returns-clause-none
returns-clause-none c = IfErr-weaker c.unmark_files.result _ _ (none_unfixed c.args.bytes.now) (returns-clause-stops c)

pub returns-clause-same : goal.returns-clause-same
returns-clause-same c = λ e cells has.
    always c.unmark_files.result
    (on_ok_weaker c.unmark_files.result (λ only. sym (only c.args.bytes.now (unchanged _ e _ has))) (returns-clause-only c)) (returns-clause-kept c)

pub slice_bounds-body-count : goal.slice_bounds-body-count
slice_bounds-body-count c = (first_lies _ _ _ c.in_ok-extent.ensures.found.1).1

pub slice_bounds-body-start : goal.slice_bounds-body-start
slice_bounds-body-start c = (first_lies _ _ _ c.in_ok-extent.ensures.found.1).1

pub unmark_files-requires-clause-multiple : goal.unmark_files-requires-clause-multiple
unmark_files-requires-clause-multiple c = grind (arith, common_steps, first_lies _ _ _ c.in_ok-extent.ensures.found.1)
