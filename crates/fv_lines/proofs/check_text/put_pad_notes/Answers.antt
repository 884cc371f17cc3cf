use Rattle.std.proofs.Common.{[], ◌∷◌, ◌++◌, rules}
use Rattle.fv_base.specs.Words.{First}
use Rattle.fv_file.specs.Words.{CellForm, cell_form}
use Rattle.fv_file.proofs.Laws.{none_after, only_one, walk_begins, walk_ends, walk_fails, walked_on}
use Rattle.fv_lines.specs.Words.{pad_note}
use Rattle.fv_text.proofs.Laws.{flat_next}
use Rattle.fv_lines.proofs.check_text.put_pad_notes.Goals as goal

pub loop-cell-init : goal.loop-cell-init
loop-cell-init g c = ([], walk_begins _, g.S.Sink.laws.none c.args.out.now)

pub loop-cell-preserved : goal.loop-cell-preserved
loop-cell-preserved g c =
    let (cs, walked, put) = c.loop-cell.invariant in
    let cell : CellForm = cell_form c.in-Ok-Some.cell in (
      cs ++ cell ∷ [],
      walked_on _ _ c.next_cell.new.self cs cell walked (search rules),
      rw (flat_next (pad_note c.args.polarity) cs cell) (g.S.Sink.laws.joined put c.put_cell.ensures),
    )

pub returns-in_default : goal.returns-in_default
returns-in_default g c = λ cs tiles.
    let (done, walked, put) = c.loop-cell.invariant in
    rw (← only_one _ _ _ _ cs done tiles (walk_ends _ c.loop-cell.walk _ walked (search rules))) put

pub returns-in_default-2 : goal.returns-in_default-2
returns-in_default-2 g c = λ cs tiles.
    let fault = rw c.in_default.is at c.next_cell.ensures.first in
    absurd (none_after First _ _ _ _ _ cs (walk_fails _ _ _ _ c.loop-cell.invariant.1 fault.0) tiles)
