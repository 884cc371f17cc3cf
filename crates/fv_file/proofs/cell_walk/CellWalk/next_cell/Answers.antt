use Rattle.fv_base.proofs.Laws.{arith, common_steps}
use Rattle.fv_file.proofs.cell_walk.CellWalk.next_cell.Goals as goal

pub bytes_from-self-inside-requires : goal.bytes_from-self-inside-requires
bytes_from-self-inside-requires c = grind (arith, common_steps)

pub invariant_of-self : goal.invariant_of-self
invariant_of-self c = grind (arith, common_steps)

pub overflow_add-self : goal.overflow_add-self
overflow_add-self c = grind (arith, common_steps)

pub returns-then-is_empty-clause-none : goal.returns-then-is_empty-clause-none
returns-then-is_empty-clause-none c = grind (arith, common_steps)

pub span_of-len-requires : goal.span_of-len-requires
span_of-len-requires c = grind (arith, common_steps)
