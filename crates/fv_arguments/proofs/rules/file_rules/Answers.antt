use Rattle.fv_arguments.proofs.rules.file_rules.Goals as goal

pub returns : goal.returns
returns c = c.add.ensures _ _ c.text_rules.ensures c.new.ensures.rule c.new.ensures.optional.1
