use Rattle.std.proofs.Common.{length}
use Rattle.fv_levels.specs.Words.{rows_of}
use Rattle.fv_survey_lines.proofs.Laws.{add_up}
use Rattle.fv_level_lines.proofs.TextLemmas.{source_account}
use Rattle.fv_level_lines.proofs.further_laws.bytes_of_each_source_add_up.Goals as goal

pub returns : goal.returns
returns c = λ s room. add_up (length s.bytes) (rows_of s)
    (source_account c.sections_keep_the_laws.ensures.tiling c.sections_keep_the_laws.ensures.few s room)
