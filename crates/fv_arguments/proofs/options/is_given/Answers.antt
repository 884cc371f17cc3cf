use Rattle.std.proofs.Common.{◌∙◌}
use Rattle.fv_arguments.proofs.ArgumentReadLemmas.{flag_answer}
use Rattle.fv_arguments.proofs.options.is_given.Goals as goal

pub returns : goal.returns
returns c = λ app rest r.
    c.unwrap_or.ensures ∙ flag_answer _ r c.args.name.now c.get_one.result c.get_one.ensures.none c.get_one.ensures.value
