use Rattle.std.proofs.Common.{◌≡◌, ◌+◌, ◌<◌, ◌≤◌}
use Rattle.fv_base.proofs.Laws.{refl, length-drop, ◌∙◌, arith, drop, length, subst, sym, Ok, common_steps}
use Rattle.fv_file.specs.Words.{CellForm}
use Rattle.fv_file.specs.inner.CellVerdicts.{cell_verdict}
use Rattle.fv_file.proofs.BodyLemmas.{all_kept, rest_free, rest_used}
use Rattle.fv_file.proofs.UnmarkLemmas.{Unmarked, cell_long, one_further, stands_unmarked, stride_len, unmarked_begins, unmarked_cell}
use Rattle.fv_file.proofs.unmark.unmark_files.Goals.{After-unmark_at, After-stride_at-at}
use Rattle.fv_file.proofs.unmark.unmark_files.Goals as goal

-- the marks up to this place are removed, and a cell is read here
here : (c : After-unmark_at) → Unmarked c.args.system c.args.polarity c.args.first c.args.body.now c.unmark_at.new.body c.loop-polarity.at
    × ((cell : CellForm) × (cell_verdict c.args.system c.args.polarity (c.args.first + c.loop-polarity.at) (drop c.loop-polarity.at c.unmark_at.new.body) ≡ Ok cell))
here c =
    let used = rest_used _ _ c.loop-polarity.body c.loop-polarity.at c.bytes_from.ensures (sym c.is_free.ensures ∙ c.loop-polarity-test.true) in
    let k = unmarked_cell _ _ _ _ _ _ _ c.in_ok-verify_unmarked.ensures.tiled c.loop-polarity.invariant used c.unmark_at.ensures in
    (k.1, k.2)

pub unmark_at-requires : goal.unmark_at-requires
unmark_at-requires c =
    let used = rest_used _ _ c.loop-polarity.body c.loop-polarity.at c.bytes_from.ensures (sym c.is_free.ensures ∙ c.loop-polarity-test.true) in
    let cell = unmarked_cell c.args.system _ c.args.first _ _ _ _ c.in_ok-verify_unmarked.ensures.tiled c.loop-polarity.invariant used refl in
    omega (arith, cell.0, length-drop c.loop-polarity.at c.loop-polarity.body)

-- after this cell, the marks up to the next place are removed
further : (c : After-stride_at-at)
    → Unmarked c.args.system c.args.polarity c.args.first c.args.body.now c.unmark_at.new.body (c.loop-polarity.at + c.stride_at-at.result)
    × (0 < c.stride_at-at.result) × (c.loop-polarity.at + c.stride_at-at.result ≤ length c.unmark_at.new.body)
further c =
    let k = here (goal.at.loop-polarity-preserved c).After-unmark_at in
    let stands = stands_unmarked _ _ _ _ c.unmark_at.new.body _ _ c.requires.multiple k.0 k.1.1 in
    one_further _ _ _ _ c.unmark_at.new.body _ _ _ k.0 stands
    (stride_len _ _ _ _ _ _ stands (λ x behind e is free.
    c.stride_at-at.ensures.cell _ _ x behind (c.bytes_from-in-loop-polarity.ensures ∙ e) is free))

pub loop-polarity-init : goal.loop-polarity-init
loop-polarity-init c = unmarked_begins _ _ _ _

pub stride_at-at-requires : goal.stride_at-at-requires
stride_at-at-requires c =
    let k = here (goal.at.stride_at-at-requires c).After-unmark_at in
    subst (λ b. 24 ≤ length b) (sym c.bytes_from-in-loop-polarity.ensures) (cell_long _ _ _ _ k.1.0 k.1.1)

pub overflow_add-at : goal.overflow_add-at
overflow_add-at c = let k = further c in omega (arith, k.2, k.0.same_length, c.requires.place)

pub loop-polarity-smaller : goal.loop-polarity-smaller
loop-polarity-smaller c = let k = further c in omega (arith, k.1, k.2, k.0.same_length, c.loop-polarity.invariant.same_length)

pub loop-polarity-preserved : goal.loop-polarity-preserved
loop-polarity-preserved c = (further c).0

pub returns : goal.returns
returns c = grind (arith, common_steps, all_kept, rest_free)
