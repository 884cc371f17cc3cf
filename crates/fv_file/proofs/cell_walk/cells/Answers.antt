use Rattle.fv_base.proofs.Laws.{arith, length-drop, common_steps, IfOk-weaker, IfErr-weaker, First}
use Rattle.fv_file.proofs.BodyLemmas.{only_one, none_after, all_within}
use Rattle.fv_file.proofs.cell_walk.cells.Goals as goal

pub returns-clause-only : goal.returns-clause-only
returns-clause-only c = IfOk-weaker c.cells_in.result _ _ (λ cs h ds g. only_one _ _ _ _ cs ds h g) (rw c.of.ensures at c.cells_in.ensures.found)

pub returns-clause-none : goal.returns-clause-none
returns-clause-none c =
    IfErr-weaker c.cells_in.result _ _ (λ f h ne ds g. none_after First _ _ _ _ f ds (h ne) g)
    (rw c.of.ensures at c.cells_in.ensures.first)

pub returns-clause-lies : goal.returns-clause-lies
returns-clause-lies c = grind (arith, common_steps, length-drop, IfOk-weaker, all_within)
