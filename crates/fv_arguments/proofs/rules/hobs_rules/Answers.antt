use Rattle.fv_arguments.proofs.rules.hobs_rules.Goals as goal

pub returns : goal.returns
returns c =
    c.add.ensures _ _ (c.add-base.ensures _ _
    (c.add-image.ensures _ _ c.text_rules.ensures c.option.ensures.rule c.option.ensures.local)
    c.option-2.ensures.rule c.option-2.ensures.local) c.new.ensures.rule c.new.ensures.optional.1
