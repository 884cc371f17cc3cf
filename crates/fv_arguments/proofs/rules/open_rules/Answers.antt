use Rattle.fv_arguments.proofs.rules.open_rules.Goals as goal

pub returns : goal.returns
returns c =
    c.add_volume.ensures _ (c.add-section.ensures _ _ c.text_rules.ensures c.option.ensures.rule c.option.ensures.local)
