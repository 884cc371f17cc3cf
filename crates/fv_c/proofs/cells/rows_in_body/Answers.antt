use Rattle.std.proofs.lemmas.Grind.{common_steps}
use Rattle.std.proofs.Common.{◌≡◌, [], ◌∷◌, ◌++◌, refl, rules, arith}
use Rattle.std.proofs.lemmas.List.{map_push}
use Rattle.fv_base.proofs.Laws.{err_is}
use Rattle.fv_file.specs.Words.{Walked, cell_form}
use Rattle.fv_file.proofs.Laws.{walk_begins, walk_fails, walked_on}
use Rattle.fv_c.specs.ReportedCells.{reported_cell}
use Rattle.fv_c.proofs.cells.rows_in_body.Goals as goal

pub loop-rows-init : goal.loop-rows-init
loop-rows-init c = ([], rw c.of-walk.ensures (walk_begins _), rw c.in_ok-rows.ensures.items refl)

pub loop-rows-preserved : goal.loop-rows-preserved
loop-rows-preserved c =
    let (cs, walked, are) = c.loop-rows.invariant in
    let cell = cell_form c.in-Some.cell in
    let step : Walked c.loop-rows.walk (cell ∷ []) c.next_cell.new.self = search rules in
    let items : c.push.new.self.items ≡ c.loop-rows.rows.items ++ reported_cell cell ∷ [] = search rules in
    (cs ++ cell ∷ [], walked_on _ _ _ _ _ walked step, cc (map_push reported_cell cs cell))

pub returns-in_err-cell-clause-first : goal.returns-in_err-cell-clause-first
returns-in_err-cell-clause-first c =
    rw (err_is c.from_residual-in_err-cell.ensures.1)
    (λ memory. walk_fails _ _ _ _ c.loop-rows.invariant.1 c.in_err-cell.ensures.first.0)

pub loop-rows-smaller : goal.loop-rows-smaller
loop-rows-smaller c = grind (arith, common_steps)
