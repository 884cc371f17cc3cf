use Rattle.std.proofs.Common.{sym, ◌∙◌}
use Rattle.fv_survey.proofs.StrictLaws.{strict_by, strict_long}
use Rattle.fv_survey.proofs.header.is_strict.Goals as goal

pub returns-clause-is : goal.returns-clause-is
returns-clause-is c = c.is_ok.ensures.value ∙ strict_by c.args.bytes.now c.verify_fv.result c.verify_fv.ensures.found c.verify_fv.ensures.first

pub returns-clause-long : goal.returns-clause-long
returns-clause-long c e = strict_long c.args.bytes.now (sym (returns-clause-is c) ∙ e)
