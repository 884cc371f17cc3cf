use Rattle.fv_arguments.proofs.ArgumentReadLemmas.{no_other}
use Rattle.fv_arguments.proofs.rules.rules_of.Goals as goal

pub returns-in_default : goal.returns-in_default
returns-in_default c =
    let not = c.in_default in
    let plain =
    no_other _ not.not-normalise not.not-check not.not-hobs not.not-extract not.not-compare not.not-list not.not-open not.not-scan not.not-survey not.not-same
    in rw plain (c.add_volume.ensures _ c.text_rules.ensures)
