use Rattle.fv_base.proofs.Laws.{common_steps, err_is, sym, arith}
use Rattle.fv_canon.proofs.FlashImageLaws.{only_want}
use Rattle.fv_canon.proofs.flash_image.lay_out_image.Goals as goal

pub returns-in_err-volumes-clause-fits : goal.returns-in_err-volumes-clause-fits
returns-in_err-volumes-clause-fits c = λ other to.
    let found = rw (sym c.as_slice.ensures.value) at c.in_ok-found.ensures.found in
    rw (err_is c.from_residual-in_err-volumes.ensures.1) (only_want c.args.image.now _ other _ found.0 c.in_err-volumes.ensures.err to)

pub returns-in_err-check-clause-memory : goal.returns-in_err-check-clause-memory
returns-in_err-check-clause-memory c = grind (arith, common_steps, err_is) steps 400000
