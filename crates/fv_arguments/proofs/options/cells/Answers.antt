use Rattle.fv_base.proofs.Laws.{codes, refl, err_is}
use Rattle.fv_arguments.proofs.RefusalLemmas.{no_input}
use Rattle.fv_arguments.specs.Words.{volume_app}
use Rattle.fv_arguments.proofs.options.cells.Goals as goal

pub returns-in_err-at : goal.returns-in_err-at
returns-in_err-at c = rw (err_is c.from_residual.ensures.1) (no_input _ (codes "cells") refl c.in_err-at.ensures)

pub returns : goal.returns
returns c = λ rest r. (refl, c.in_ok-at.ensures volume_app rest r)
