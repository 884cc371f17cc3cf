use Rattle.fv_arguments.proofs.rules.flag_rules.Goals as goal

pub returns : goal.returns
returns c = c.add_volume.ensures _ (c.add.ensures _ _ c.text_rules.ensures c.flag.ensures.rule c.flag.ensures.local)
