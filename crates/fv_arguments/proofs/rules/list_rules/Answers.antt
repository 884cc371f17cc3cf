use Rattle.fv_arguments.proofs.rules.list_rules.Goals as goal

pub returns : goal.returns
returns c =
    c.add_volume.ensures _ (c.add-opened.ensures _ _
    (c.add-sums.ensures _ _ c.text_rules.ensures c.flag.ensures.rule c.flag.ensures.local)
    c.flag-2.ensures.rule c.flag-2.ensures.local)
