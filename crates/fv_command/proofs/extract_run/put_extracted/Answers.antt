use Rattle.std.proofs.Common.{◌++◌}
use Rattle.fv_base.proofs.Laws.{refl, err_is}
use Rattle.fv_command.specs.Words.{part_line}
use Rattle.fv_command.proofs.extract_run.put_extracted.Goals as goal

pub returns-in_err-extraction : goal.returns-in_err-extraction
returns-in_err-extraction g c = rw (err_is c.from_residual.ensures.1) (c.in_err-extraction.ensures.err, refl)

pub returns : goal.returns
returns g c =
    let is = c.in_ok-extraction.ensures.ok in
    let put = c.put_extraction-outcome.ensures in
    let line = c.put_part_line.ensures in (
      put.0 ++ part_line c.put_extraction-outcome.result,
      (is.0, c.in_ok-extraction.extraction, c.put_extraction-outcome.result, put.0, is.1, is.2, put.1, line.status, refl),
      g.S.Sink.laws.joined put.2 line.line,
    )
