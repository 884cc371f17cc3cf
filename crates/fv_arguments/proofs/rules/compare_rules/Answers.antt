use Rattle.fv_arguments.proofs.rules.compare_rules.Goals as goal

pub returns : goal.returns
returns c =
    c.add.ensures _ _ (c.add-first.ensures _ _ (c.add-other_at.ensures _ _
    (c.add-at.ensures _ _ c.text_rules.ensures c.option.ensures.rule c.option.ensures.local)
    c.option-2.ensures.rule c.option-2.ensures.local) c.new.ensures.rule c.new.ensures.optional.1)
    c.new-2.ensures.rule c.new-2.ensures.optional.1
