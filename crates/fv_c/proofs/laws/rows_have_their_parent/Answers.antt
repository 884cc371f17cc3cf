use Rattle.fv_c.proofs.TreeParents.{first_is, held_are}
use Rattle.fv_c.proofs.laws.rows_have_their_parent.Goals as goal

pub returns-clause-first : goal.returns-clause-first
returns-clause-first c = first_is

pub returns-clause-inner : goal.returns-clause-inner
returns-clause-inner c = held_are
