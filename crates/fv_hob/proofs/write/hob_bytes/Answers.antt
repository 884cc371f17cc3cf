use Rattle.std.proofs.lemmas.Grind.{common_steps}
use Rattle.std.proofs.Common.{arith}
use Rattle.std.proofs.Common.{ap, ◌∙◌}
use Rattle.fv_hob.specs.Words.{list_spelled}
use Rattle.fv_hob.proofs.HobImageLemmas.{list_again, list_kept}
use Rattle.fv_hob.proofs.write.hob_bytes.Goals as goal

pub returns-clause-list : goal.returns-clause-list
returns-clause-list c = grind (arith, common_steps, list_again)

pub returns-clause-kept : goal.returns-clause-kept
returns-clause-kept c = λ b is used.
    c.from_vec.ensures ∙ c.in_ok-bytes.ensures ∙ ap list_spelled c.as_slice.ensures.blocks ∙ list_kept c.args.hobs.now b is used
