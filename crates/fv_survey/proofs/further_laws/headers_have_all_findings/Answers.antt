use Rattle.fv_survey.proofs.FindingLaws.{finding_is}
use Rattle.fv_survey.proofs.further_laws.headers_have_all_findings.Goals as goal

pub returns : goal.returns
returns c kind b = finding_is kind b
