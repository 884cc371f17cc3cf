use Rattle.fv_arguments.proofs.rules.extract_rules.Goals as goal

pub returns : goal.returns
returns c =
    c.add_volume.ensures _ (c.add-opened.ensures _ _ (c.add-instance.ensures _ _ (c.add-section.ensures _ _
    (c.add-name.ensures _ _ c.text_rules.ensures c.option.ensures.rule c.option.ensures.local)
    c.option-2.ensures.rule c.option-2.ensures.local) c.option-3.ensures.rule c.option-3.ensures.local)
    c.flag.ensures.rule c.flag.ensures.local)
