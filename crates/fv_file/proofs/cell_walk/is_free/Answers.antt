use Rattle.fv_base.proofs.Laws.{arith, lt-ltb, eq-eqb, common_steps}
use Rattle.fv_file.proofs.ErasedByteLemmas.{not_all}
use Rattle.fv_file.proofs.cell_walk.is_free.Goals as goal
use Rattle.fv_file.proofs.cell_walk.is_free.Goals.{then-rest-lt-HEADER_LEN, else-rest-lt-HEADER_LEN}

pub returns-else-rest-erased : goal.returns-else-rest-erased
returns-else-rest-erased c = grind (arith, common_steps, then-rest-lt-HEADER_LEN, lt-ltb, else-rest-lt-HEADER_LEN, not_all, eq-eqb)
