use Rattle.fv_base.proofs.Laws.{arith, ap, common_steps, err_is}
use Rattle.fv_base.specs.declared.fault.Fault.{Fault}
use Rattle.fv_head.proofs.HeadPlaceLemmas.{one_front}
use Rattle.fv_head.proofs.HeadFaultLemmas.{fault_known}
use Rattle.fv_head.proofs.head.read_head.Goals as goal

pub returns-clause-only : goal.returns-clause-only
returns-clause-only c = grind (arith, common_steps, one_front)

-- the fault of a rejected header is not OutOfMemory
pub returns-in_err-extent-clause-memory : goal.returns-in_err-extent-clause-memory
returns-in_err-extent-clause-memory c =
    rw (err_is c.from_residual.ensures.1)
    (λ want. absurd (fault_known c.args.bytes.now _ c.in_err-extent.ensures.first (ap (λ (f : Fault). f.kind) want)))
