use Rattle.std.proofs.Common.{◌++◌, inr, ap, ◌∙◌}
use Rattle.fv_base.proofs.Laws.{refl, err_is}
use Rattle.fv_command.specs.Words.{opened_status, search_line}
use Rattle.fv_command.proofs.extract_run.put_extracted_opened.Goals as goal

pub returns-in_err-search : goal.returns-in_err-search
returns-in_err-search g c =
    let stops = c.in_err-search.ensures.err in
    rw (err_is c.from_residual-in_err-search.ensures.1) (inr (inr (_, c.in_ok-volume.ensures.ok, stops.0)), stops.1)

pub returns : goal.returns
returns g c =
    let put = c.in_ok-search.ensures.ok in
    let line = c.put_found_line-status.ensures in (
      put.0 ++ search_line c.in_ok-search.search,
      (
        c.in_ok-volume.volume,
        c.in_ok-search.search,
        put.0,
        c.in_ok-volume.ensures.ok,
        put.1,
        c.opened_status.ensures ∙ ap (opened_status c.in_ok-search.search.ran_out) line.status,
        refl,
      ),
      g.S.Sink.laws.joined put.2 line.line,
    )
