use Rattle.std.proofs.Common.{◌≡◌, ℕ, ◌+◌, ◌-◌, [], ◌∷◌, ◌==◌, ◌&&◌, ◌||◌, ◌∙◌, sym, ap, arith, length, drop, get_or, map, List, true, not}
use Rattle.fv_base.proofs.Laws.{subst, length-drop, Decides-eqb, eqb-true, drop_all, get_or-map, item_at, length-map, err_is, seam_items, outer_fault}
use Rattle.fv_tree.specs.Words.{file_form, FileForm, TopAtEnd, is_top, end_of}
use Rattle.fv_tree.proofs.NamedLaws.{no_file}
use Rattle.fv_tree.proofs.NameLaws.{misplaced, top_more}
use Rattle.fv_base.specs.declared.fault.FaultKind.TheVariants as kinds
use Rattle.fv_tree.proofs.volume_files.check_top.Goals as goal

pub returns-in_err-check-clause-first : goal.returns-in_err-check-clause-first
returns-in_err-check-clause-first c = rw (err_is c.from_residual.ensures.1) (λ b.
    let i : ℕ = c.loop-file.file-index in
    let all : List FileForm = map (file_form b) c.args.files.now in
    let f : FileForm = file_form b (get_or c.args.files.now i no_file) in
    let bad = misplaced (is_top f) (c.loop-file.left - 1 == 0) (end_of f == c.args.length) (sym c.is_placed.ensures ∙ c.in_err-check.ensures.err.0) in
    let off : drop (i + 1) all ≡ [] → end_of f ≡ c.args.length → ⊥ = λ none ends. bad.1 ((Decides-eqb (c.loop-file.left - 1) 0).1 (omega
    (arith, ap length none, length-drop (i + 1) all, length-map c.args.files.now (file_form b), c.loop-file.invariant.count, c.loop-file-test.true)))
    ((Decides-eqb (end_of f) c.args.length).1 ends) in
    let same = c.in_err-check.ensures.err.1 ∙ ap (outer_fault kinds.TopFile) c.from.ensures in
    (f, (_, _, seam_items (file_form b) c.args.files.now i no_file c.loop-file-test.true, bad.0, off), same))

pub loop-file-preserved : goal.loop-file-preserved
loop-file-preserved c = record {
  count = omega (arith, c.loop-file.invariant.count, c.loop-file-test.true);
  rest = λ b more.
      let i : ℕ = c.loop-file.file-index in
      let files = c.args.files.now in
      let all : List FileForm = map (file_form b) files in
      let f : FileForm = file_form b (get_or files i no_file) in
      let long : length all ≡ length files = length-map files (file_form b) in
      let split : drop i all ≡ f ∷ drop (i + 1) all =
      item_at all i f (omega (arith, c.loop-file-test.true, long)) (sym (get_or-map (file_form b) files i no_file f c.loop-file-test.true)) in
      let none : (c.loop-file.left - 1 == 0) ≡ true → drop (i + 1) all ≡ [] = λ last.
      drop_all (i + 1) all (omega (arith, long, eqb-true _ _ last, c.loop-file.invariant.count, c.loop-file-test.true)) in
      let good : (not (is_top f) || ((c.loop-file.left - 1 == 0) && (end_of f == c.args.length))) ≡ true =
      sym c.is_placed.ensures ∙ c.in_ok-check.ensures.ok in
      c.loop-file.invariant.rest b (subst (TopAtEnd c.args.length) (sym split) (top_more c.args.length f _ _ none good more));
}
