use Rattle.fv_arguments.proofs.rules.survey_rules.Goals as goal

pub returns : goal.returns
returns c =
    c.add.ensures _ _ (c.add-opened.ensures _ _ c.text_rules.ensures c.flag.ensures.rule c.flag.ensures.local)
    c.new.ensures.rule c.new.ensures.optional.1
