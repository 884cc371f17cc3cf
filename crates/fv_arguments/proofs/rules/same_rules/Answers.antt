use Rattle.fv_arguments.proofs.rules.same_rules.Goals as goal

pub returns : goal.returns
returns c =
    c.add.ensures _ _ (c.add-first.ensures _ _ c.text_rules.ensures c.new.ensures.rule c.new.ensures.optional.1)
    c.new-2.ensures.rule c.new-2.ensures.optional.1
