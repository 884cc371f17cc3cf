use Rattle.std.proofs.Common.{◌≡◌, ◌∙◌, ℕ, Some, subst, take}
use Rattle.std.specs.List.{concat}
use Rattle.std.specs.Prelude.{OnErr, OnOk}
use Rattle.std.proofs.lemmas.Result.{on_err_weaker, on_ok_weaker}
use Rattle.fv_levels.specs.Words.{SourceForm, source_form}
use Rattle.fv_level_lines.specs.Words.{source_lines}
use Rattle.fv_level_lines.proofs.TextLemmas.{put_own, put_own_front, source_account}
use Rattle.fv_level_lines.proofs.source_text.put_source.Goals as goal

pub put_rows-requires : goal.put_rows-requires
put_rows-requires g c =
    let laws = c.sections_keep_the_laws.ensures in
    let size = c.size_of-size.ensures in
    rw (c.in_ok-walk.ensures.rows, size.size)
    (record { account = source_account laws.tiling laws.few (source_form c.in-Some.source) (rw size.size at size.room) })

pub returns-clause-text : goal.returns-clause-text
returns-clause-text g c = λ s is.
    let own : Some (source_form c.in-Some.source) ≡ Some s = c.in-Some.ensures.source ∙ is in
    let same : source_form c.in-Some.source ≡ s = cc in
    let head = rw c.size_of-size.ensures.size at c.put_head.ensures in
    let text = rw (c.in_ok-walk.ensures.rows, c.size_of-size.ensures.size) at c.put_rows.ensures.text in
    subst (λ (x : SourceForm). OnOk c.put_rows.result (g.S.Sink.takes c.args.out.now (concat (source_lines c.args.number x)) c.put_rows.new.out))
    same (on_ok_weaker c.put_rows.result (put_own g.S.Sink.laws c.args.number (source_form c.in-Some.source) head) text)

pub returns-clause-front : goal.returns-clause-front
returns-clause-front g c = λ s is.
    let own : Some (source_form c.in-Some.source) ≡ Some s = c.in-Some.ensures.source ∙ is in
    let same : source_form c.in-Some.source ≡ s = cc in
    let head = rw c.size_of-size.ensures.size at c.put_head.ensures in
    let front = rw c.in_ok-walk.ensures.rows at c.put_rows.ensures.front in
    subst (λ (x : SourceForm). OnErr c.put_rows.result ((n : ℕ)
    × g.S.Sink.takes c.args.out.now (concat (take n (source_lines c.args.number x))) c.put_rows.new.out)) same
    (on_err_weaker c.put_rows.result (put_own_front g.S.Sink.laws c.args.number (source_form c.in-Some.source) head) front)
