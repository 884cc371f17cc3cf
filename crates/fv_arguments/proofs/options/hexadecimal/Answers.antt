use Rattle.fv_arguments.proofs.TypeLemmas.{no_plus}
use Rattle.fv_arguments.proofs.options.hexadecimal.Goals as goal

pub returns-in-Err : goal.returns-in-Err
returns-in-Err c = λ words n h. let none = rw (no_plus c.args.digits.now h.0) at c.in-Err.ensures.value in none (h.0, rw h.1 at h.2)
