use Rattle.std.proofs.Common.{◌≡◌, ◌∷◌, ap, arith, length, List}
use Rattle.fv_survey.specs.declared.row.Row.{Row}
use Rattle.fv_survey_lines.specs.declared.totals.Totals.{Totals}
use Rattle.fv_survey_lines.proofs.LineLemmas.{front, on_err, put_all, put_none, put_one_more, room_left}
use Rattle.fv_survey_lines.proofs.survey_text.put_rows.Goals as goal

pub loop-walk-init : goal.loop-walk-init
loop-walk-init g c = put_none g.S.Sink.laws c.args.walk c.args.out.now c.no_totals-totals.result c.no_totals-totals.ensures

pub loop-walk-preserved : goal.loop-walk-preserved
loop-walk-preserved g c =
    let first : c.loop-walk.walk ≡ c.in-Some.row ∷ c.next_row.new.self = rw c.in-Some.is at c.in_ok-row.ensures.some in
    put_one_more g.S.Sink.laws c.in-Some.row c.next_row.new.self c.with_row-totals.result first c.loop-walk.invariant c.put_row.ensures
    c.with_row-totals.ensures

pub with_row-totals-requires : goal.with_row-totals-requires
with_row-totals-requires g c =
    let first : c.loop-walk.walk ≡ c.in-Some.row ∷ c.next_row.new.self = rw c.in-Some.is at c.in_ok-row.ensures.some in
    room_left c.args.size c.in-Some.row c.next_row.new.self first c.requires.account c.loop-walk.invariant

pub loop-walk-smaller : goal.loop-walk-smaller
loop-walk-smaller g c =
    let first : c.loop-walk.walk ≡ c.in-Some.row ∷ c.next_row.new.self = rw c.in-Some.is at c.in_ok-row.ensures.some in
    omega (arith, ap (λ (rows : List Row). length rows) first)

pub returns-clause-text : goal.returns-clause-text
returns-clause-text g c =
    let none = rw c.in_default.is at c.in_ok-row.ensures.none in
    let (put, totals) = put_all c.loop-walk.invariant none.0 in
    g.S.Sink.laws.joined put (rw totals at c.put_totals.ensures)

pub returns-clause-clean : goal.returns-clause-clean
returns-clause-clean g c =
    let none = rw c.in_default.is at c.in_ok-row.ensures.none in
    ap (λ (t : Totals). t.clean) (put_all c.loop-walk.invariant none.0).1

pub returns-in_err-row-clause-front : goal.returns-in_err-row-clause-front
returns-in_err-row-clause-front g c = on_err c.from_residual.result (front c.loop-walk.invariant)
