use Rattle.std.proofs.Common.{subst, IfErr}
use Rattle.fv_base.specs.Words.{IsFirstFault}
use Rattle.fv_section.specs.Words.{frame_checks}
use Rattle.fv_survey.proofs.SectionLaws.{usual_never}
use Rattle.fv_survey.proofs.section_step.begins_usual.Goals as goal

pub returns-in_default-2 : goal.returns-in_default-2
returns-in_default-2 c =
    usual_never c.in_default.field-0 c.args.rest.now
    (subst (λ r. IfErr r (IsFirstFault (frame_checks 0 c.args.rest.now))) c.in_default.is c.next_frame.ensures.first)
