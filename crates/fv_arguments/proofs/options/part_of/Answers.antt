use Rattle.fv_arguments.proofs.RefusalLemmas.{passed}
use Rattle.fv_arguments.proofs.options.part_of.Goals as goal

pub returns-in_err-name_of : goal.returns-in_err-name_of
returns-in_err-name_of c =
    passed _ _ _ _ c.from_residual.ensures.1 c.in_err-name_of.ensures (λ part h. (part.name, h.name_is))

pub returns-in_err-section_of : goal.returns-in_err-section_of
returns-in_err-section_of c =
    passed _ _ _ _ c.from_residual-in_err-section_of.ensures.1 c.in_err-section_of.ensures (λ part h. (part.section, h.section_is))

pub returns-in_err-instance_of : goal.returns-in_err-instance_of
returns-in_err-instance_of c =
    passed _ _ _ _ c.from_residual-in_err-instance_of.ensures.1 c.in_err-instance_of.ensures (λ part h. (part.instance, h.instance_is))
