-- Laws of faults and of results:
-- 1. If `?` passes a fault on, the result is this fault (`err_is`). So each clause about the result is proved for the
--    fault, and carried over by `rw`.
-- 2. The second of two alternatives can be replaced by one that follows from it (`or_more`). If the second is
--    impossible, the first holds (`first_only`). The first alternative is mostly out of memory.
-- 3. A fault is out of memory, or it is not (`want_known`).
use Rattle.std.proofs.Common.{◌≡◌, ◌≢◌, ◌⊎◌, ℕ, inl, inr, ap, arith, Result, Ok, Err, IsErrAnd}
use Rattle.std.proofs.lemmas.Grind.{common_steps}
use Rattle.std.proofs.lemmas.Bool.{cases_eq}
use Rattle.fv_base.specs.Words.{out_of_memory}
use Rattle.fv_base.specs.declared.fault.Fault.{Fault}
use Rattle.fv_base.specs.declared.fault.FaultKind.{FaultKind}
use Rattle.fv_base.specs.declared.fault.FaultKind.TheVariants as kinds

pub err_is : {A F : Type 0} {r : Result A F} {f : F} → IsErrAnd r (λ g. g ≡ f) → r ≡ Err f
err_is {r = Ok a} is = absurd is
err_is {r = Err g} is = ap Err is

pub or_more : {P U V : Type 0} → P ⊎ U → (U → V) → P ⊎ V
or_more (inl p) more = inl p
or_more (inr u) more = inr (more u)

pub first_only : {P U : Type 0} → P ⊎ U → (U → ⊥) → P
first_only either none = grind (arith, common_steps)

-- ---- out of memory

kind_known : (k : FaultKind) → (k ≡ kinds.OutOfMemory) ⊎ (k ≢ kinds.OutOfMemory)
kind_known k = grind (arith, common_steps)

number_known : (n : ℕ) → (n ≡ 0) ⊎ (n ≢ 0)
number_known n = cases_eq n 0

pub want_known : (f : Fault) → (f ≡ out_of_memory) ⊎ (f ≢ out_of_memory)
want_known f = grind (arith, common_steps, kind_known, number_known)
