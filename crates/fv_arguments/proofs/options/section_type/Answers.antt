use Rattle.fv_arguments.proofs.TypeLemmas.{no_plus, small}
use Rattle.fv_arguments.proofs.options.section_type.Goals as goal

pub returns-in-Err : goal.returns-in-Err
returns-in-Err c = λ h. c.in-Err.ensures.value (rw (no_plus c.args.text.now h.0) (h.0, small c.args.text.now h.0 h.1))
