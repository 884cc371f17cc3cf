use Rattle.fv_arguments.proofs.rules.add_volume.Goals as goal

pub returns : goal.returns
returns c = λ app is.
    c.add.ensures _ _ (c.add-at.ensures app _ is c.option.ensures.rule c.option.ensures.local)
    c.new.ensures.rule c.new.ensures.optional.1
