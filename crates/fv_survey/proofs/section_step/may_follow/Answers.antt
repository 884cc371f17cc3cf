use Rattle.std.proofs.Common.{◌∙◌}
use Rattle.fv_survey.proofs.SectionLaws.{follow_is}
use Rattle.fv_survey.proofs.section_step.may_follow.Goals as goal

pub returns : goal.returns
returns c =
    let e = c.next_frame.ensures in
    c.is_ok.ensures.value ∙ follow_is c.next_frame.result c.args.rest.now e.found e.past e.first e.place
