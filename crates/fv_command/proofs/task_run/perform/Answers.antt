use Rattle.std.proofs.Common.{refl}
use Rattle.std.proofs.lemmas.Result.{err_from_is_err_and}
use Rattle.fv_command.proofs.MemoryLaws.{image_cause, with_cause}
use Rattle.fv_command.proofs.task_run.perform.Goals as goal

-- `normalise` of a volume
pub returns-in_err-lay_out_volume-in-Normalise : goal.returns-in_err-lay_out_volume-in-Normalise
returns-in_err-lay_out_volume-in-Normalise g c =
    let p = err_from_is_err_and c.from_residual.result c.from_residual.ensures.1 in
    let e = c.in_err-lay_out_volume-in-Normalise.ensures in
    rw (c.in-Normalise.is, p.1, p.2) (with_cause e.err e.memory, refl)

pub returns-in_ok-lay_out_volume-in-Normalise : goal.returns-in_ok-lay_out_volume-in-Normalise
returns-in_ok-lay_out_volume-in-Normalise g c =
    let put = c.put_shown_image-in-Normalise.ensures in
    rw c.in-Normalise.is (put.1, (put.0, (_, c.in_ok-lay_out_volume-in-Normalise.ensures.found, put.2), put.3), put.4)

-- `normalise --all` of a flash image
pub returns-in_err-lay_out_image-in-NormaliseAll : goal.returns-in_err-lay_out_image-in-NormaliseAll
returns-in_err-lay_out_image-in-NormaliseAll g c =
    let residual = c.from_residual-in_err-lay_out_image-in-NormaliseAll in
    let p = err_from_is_err_and residual.result residual.ensures.1 in
    let e = c.in_err-lay_out_image-in-NormaliseAll.ensures in
    rw (c.in-NormaliseAll.is, p.1, p.2) (image_cause _ _ e.err e.memory, refl)

pub returns-in_ok-lay_out_image-in-NormaliseAll : goal.returns-in_ok-lay_out_image-in-NormaliseAll
returns-in_ok-lay_out_image-in-NormaliseAll g c =
    let put = c.put_shown_image-in-NormaliseAll-2.ensures in
    rw c.in-NormaliseAll.is (put.1, (put.0, rw c.in_ok-lay_out_image-in-NormaliseAll.ensures.ok at put.2, put.3), put.4)

pub returns-in-List : goal.returns-in-List
returns-in-List g c = rw c.in-List.is (c.list.ensures c.args.hex)

pub returns-in-ListSums : goal.returns-in-ListSums
returns-in-ListSums g c = rw c.in-ListSums.is (c.list_sums.ensures c.args.hex)

pub returns-in-ListOpened : goal.returns-in-ListOpened
returns-in-ListOpened g c = rw c.in-ListOpened.is (c.list_opened.ensures c.args.hex)

pub returns-in-Check : goal.returns-in-Check
returns-in-Check g c = rw c.in-Check.is (c.put_check.ensures c.args.hex)

pub returns-in-CheckAll : goal.returns-in-CheckAll
returns-in-CheckAll g c = rw c.in-CheckAll.is (c.put_image_check.ensures c.args.hex)

pub returns-in-Cells : goal.returns-in-Cells
returns-in-Cells g c = rw c.in-Cells.is (c.cells.ensures c.args.hex)

pub returns-in-Unfix : goal.returns-in-Unfix
returns-in-Unfix g c = rw c.in-Unfix.is c.put_unfixed.ensures

pub returns-in-Scan : goal.returns-in-Scan
returns-in-Scan g c = rw c.in-Scan.is (c.scan.ensures c.args.hex)

pub returns-in-Survey : goal.returns-in-Survey
returns-in-Survey g c =
    let put = c.put_surveyed.ensures in rw c.in-Survey.is (put.0, put.1, put.2)

pub returns-in-SurveyOpened : goal.returns-in-SurveyOpened
returns-in-SurveyOpened g c =
    let put = c.put_surveyed_opened.ensures in rw c.in-SurveyOpened.is (put.0, put.1, put.2)
