use Rattle.std.proofs.Common.{arith}
use Rattle.fv_survey_lines.proofs.TotalLemmas.{image_account}
use Rattle.fv_survey_lines.proofs.survey_text.put_survey.Goals as goal

pub put_rows-requires : goal.put_rows-requires
put_rows-requires g c = rw c.in_ok-walk.ensures.rows (record { account = image_account c.args.image.now (omega arith) })

pub returns-clause-text : goal.returns-clause-text
returns-clause-text g c = rw c.in_ok-walk.ensures.rows at c.put_rows.ensures.text
