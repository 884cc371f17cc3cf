use Rattle.std.proofs.Common.{drop, length, map}
use Rattle.fv_survey.specs.Words.{survey_of}
use Rattle.fv_levels.specs.Words.{levels_of}
use Rattle.fv_level_lines.specs.Words.{closed_line, counts_line, sources_lines}
use Rattle.fv_level_lines.proofs.TextLemmas.{begins_with_image}
use Rattle.fv_level_lines.proofs.further_laws.the_survey_comes_first.Goals as goal

pub returns : goal.returns
returns c = λ image s.
    begins_with_image (length image) (survey_of image) (sources_lines 1 (drop 1 (levels_of image s).sources))
    (map closed_line (levels_of image s).closed) (counts_line (levels_of image s))
