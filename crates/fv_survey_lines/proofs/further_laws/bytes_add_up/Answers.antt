use Rattle.std.proofs.Common.{length}
use Rattle.fv_survey.specs.Words.{survey_of}
use Rattle.fv_survey_lines.proofs.TotalLemmas.{add_up, image_account}
use Rattle.fv_survey_lines.proofs.further_laws.bytes_add_up.Goals as goal

pub returns : goal.returns
returns c = λ image room. add_up (length image) (survey_of image) (image_account image room)
