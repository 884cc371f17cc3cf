use Rattle.std.proofs.Common.{[], refl}
use Rattle.fv_extract.specs.Words.{Nowhere}
use Rattle.fv_extract.proofs.StepLemmas.{ended_text, going}
use Rattle.fv_extract.proofs.opened_search.put_opened_part.Goals as goal

pub returns-in-Ended-clause-ok : goal.returns-in-Ended-clause-ok
returns-in-Ended-clause-ok g c =
    ended_text _ c.args.part.now c.args.hex _ _ _ _ _ c.in-Ended.search c.of-rows.ensures c.start.ensures
    (rw (c.in_ok-search.was, c.in-Ended.is) at c.put_in_rows.ensures)

pub returns-in-Going-clause-ok : goal.returns-in-Going-clause-ok
returns-in-Going-clause-ok g c =
    let (is, kept) =
    going _ (record { part = c.args.part.now; hex = c.args.hex }) _ _ _ c.in-Going.end
    (rw (c.in_ok-search.was, c.in-Going.is) at c.put_in_rows.ensures) in
    ([], (Nowhere c.in-Going.end, rw (c.of-rows.ensures, c.start.ensures) at is, (c.search_of.ensures, refl)), rw kept (g.S.Sink.laws.none _))
