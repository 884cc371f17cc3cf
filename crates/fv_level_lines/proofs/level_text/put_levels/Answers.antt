use Rattle.std.proofs.Common.{drop, length, map}
use Rattle.fv_survey.specs.Words.{survey_of}
use Rattle.fv_survey_lines.proofs.Laws.{on_err}
use Rattle.fv_levels.specs.Words.{levels_of}
use Rattle.fv_level_lines.specs.Words.{closed_line, counts_line, sources_lines}
use Rattle.fv_level_lines.proofs.TextLemmas.{front_image, front_sources, put_whole}
use Rattle.fv_level_lines.proofs.level_text.put_levels.Goals as goal

pub returns-in_err-image_is_clean-clause-front : goal.returns-in_err-image_is_clean-clause-front
returns-in_err-image_is_clean-clause-front g c =
    let w = levels_of c.args.image.now c.args.budget in
    on_err c.from_residual.result (front_image g.S.Sink.takes (length c.args.image.now) (survey_of c.args.image.now)
    (sources_lines 1 (drop 1 w.sources)) (map closed_line w.closed) (counts_line w) c.in_err-image_is_clean.ensures.front)

pub returns-in_err-levels-clause-front : goal.returns-in_err-levels-clause-front
returns-in_err-levels-clause-front g c =
    let w = levels_of c.args.image.now c.args.budget in
    on_err c.from_residual-in_err-levels.result (front_sources g.S.Sink.laws (length c.args.image.now) (survey_of c.args.image.now)
    (sources_lines 1 (drop 1 w.sources)) (map closed_line w.closed) (counts_line w) c.in_ok-image_is_clean.ensures.text
    (0, g.S.Sink.laws.none _))

pub returns-in_err-sources_are_clean-clause-front : goal.returns-in_err-sources_are_clean-clause-front
returns-in_err-sources_are_clean-clause-front g c =
    let w = levels_of c.args.image.now c.args.budget in
    let put = rw c.in_ok-levels.ensures.levels at c.in_err-sources_are_clean.ensures.front in
    on_err c.from_residual-in_err-sources_are_clean.result (front_sources g.S.Sink.laws (length c.args.image.now)
    (survey_of c.args.image.now) (sources_lines 1 (drop 1 w.sources)) (map closed_line w.closed) (counts_line w)
    c.in_ok-image_is_clean.ensures.text put)

pub returns-clause-text : goal.returns-clause-text
returns-clause-text g c =
    let w = levels_of c.args.image.now c.args.budget in
    let put = rw c.in_ok-levels.ensures.levels at c.in_ok-sources_are_clean.ensures.text in
    let closed = rw (c.closed.ensures, c.in_ok-levels.ensures.levels) at c.put_closed.ensures in
    let counts = rw c.in_ok-levels.ensures.levels at c.put_counts.ensures in
    put_whole g.S.Sink.laws (length c.args.image.now) (survey_of c.args.image.now) (sources_lines 1 (drop 1 w.sources)) w.closed
    (counts_line w) c.in_ok-image_is_clean.ensures.text put closed counts
