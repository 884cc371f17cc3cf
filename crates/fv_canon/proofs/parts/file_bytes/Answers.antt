use Rattle.fv_base.proofs.Laws.{common_steps, arith, IfOk-weaker, err_is, first_only, kept_whole}
use Rattle.fv_canon.proofs.FitLaws.{first_none}
use Rattle.fv_canon.proofs.OneImageLaws.{data_one}
use Rattle.fv_canon.proofs.PartLengthLaws.{begin_all}
use Rattle.fv_canon.proofs.parts.file_bytes.Goals as goal

pub returns-in_err-starts-clause-fits : goal.returns-in_err-starts-clause-fits
returns-in_err-starts-clause-fits c fit =
    rw (err_is c.from_residual.ensures.1) (first_only c.in_err-starts.ensures.err (λ unfit. first_none _ 0 _ unfit fit))

pub put_laid_data-requires : goal.put_laid_data-requires
put_laid_data-requires c = rw c.as_slice.ensures.value (begin_all _ c.in_ok-starts.starts.items c.in_ok-starts.ensures.ok)

pub returns-clause-data : goal.returns-clause-data
returns-clause-data c = grind (arith, common_steps, IfOk-weaker, kept_whole) steps 400000

pub returns-clause-only : goal.returns-clause-only
returns-clause-only c other image = grind (arith, common_steps, IfOk-weaker, data_one, returns-clause-data) steps 400000
