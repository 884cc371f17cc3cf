use Rattle.fv_base.proofs.Laws.{refl, err_is}
use Rattle.fv_file.specs.inner.CellVerdicts.{file_verdict}
use Rattle.fv_file.proofs.head.file_at.Goals as goal

pub returns-in_err-check_file-clause-is : goal.returns-in_err-check_file-clause-is
unfolding file_verdict
returns-in_err-check_file-clause-is c = rw (err_is c.from_residual.ensures.1, c.in_err-check_file.ensures.err) refl

pub returns-clause-is : goal.returns-clause-is
unfolding file_verdict
returns-clause-is c = rw (c.in_ok-check_file.ensures.ok, c.head_in.ensures) refl
