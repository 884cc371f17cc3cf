use Rattle.std.proofs.Common.{◌≡◌, ◌≢◌, ◌⊎◌, rules, arith, refl}
use Rattle.fv_base.proofs.Laws.{common_steps, or_more}
use Rattle.fv_hob.specs.Words.{hob_out_of_memory}
use Rattle.fv_hob.specs.declared.fault.HobFault.{HobFault}
use Rattle.fv_command.proofs.MemoryLaws.{with_cause}
use Rattle.fv_command.proofs.hob_run.put_hob_list.Goals as goal

-- a fault of a hand-off list is out of memory, or it is not
hob_known : (f : HobFault) → (f ≡ hob_out_of_memory) ⊎ (f ≢ hob_out_of_memory)
hob_known f = first_of (grind (arith, common_steps), search rules)

pub returns-in-Err-read_hobs : goal.returns-in-Err-read_hobs
returns-in-Err-read_hobs g c =
    let inputs = c.in-Ok.ensures.ok in
    let first = rw c.deref.ensures.value at c.in-Err-read_hobs.ensures.first in
    let memory = rw c.deref.ensures.value at c.in-Err-read_hobs.ensures.memory in
    ((_, _, inputs.0, inputs.1, with_cause (or_more (hob_known c.in-Err-read_hobs.fault) first) memory), refl)
