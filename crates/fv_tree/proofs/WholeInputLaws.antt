-- The laws of whole inputs: which volume an input is, or why it is not a volume.
use Rattle.std.proofs.Common.{◌≡◌, ◌≢◌, ◌≤◌, ℕ, ◌⊎◌, ◌==◌, List, length, take, refl, sym, arith, inl, inr, true, false, take_all}
use Rattle.fv_base.proofs.Laws.{eqb-true, eq-eqb, common_steps, or_more, want_known, First, outer_fault, out_of_memory, depth_limit}
use Rattle.fv_base.specs.declared.fault.Fault.{Fault}
use Rattle.fv_base.specs.declared.fault.FaultKind.{FaultKind}
use Rattle.fv_head.specs.Words.{BeginsWithHeader}
use Rattle.fv_tree.specs.Words.{Accepted, Denotes, FaultHolds, IsFirstOfVolume, BytesFollowVolume, MemoryRanOut, NotRead, Meaning, length_of}
use Rattle.fv_tree.specs.Words.{outermost}
use Rattle.fv_tree.proofs.FaultKindLaws.{stands_other}
use Rattle.fv_tree.proofs.RefusalLaws.{fault_refuses}
use Rattle.fv_base.specs.declared.fault.FaultKind.TheVariants as kinds

-- ---- an input and the volume that it begins with

-- an input that is a volume begins with this volume
pub input_prefix : (b : List ℕ) (m : Meaning) → Denotes depth_limit b m → Denotes depth_limit (take (length b) b) m
input_prefix b m d = rw (take_all (length b) b (omega arith)) d

-- an input that does not begin with a volume is not a volume
pub first_rejects : (b : List ℕ) (f : Fault) → IsFirstOfVolume b f → NotRead b f
first_rejects b f first = record {
  none = λ m d. fault_refuses First depth_limit (length b) f b outermost m (omega arith) first (input_prefix b m d.1);
  first = inl first;
}

-- so an input for which a fault is returned is not a volume, unless memory ran out
pub volume_refused : (b : List ℕ) (f : Fault) → (f ≢ out_of_memory → IsFirstOfVolume b f) → (f ≡ out_of_memory) ⊎ NotRead b f
volume_refused b f first = or_more (want_known f) (λ other. first_rejects b f (first other))

-- if the test of the volume's end fails, the volume does not end where the input ends
not_the_end : (b : List ℕ) (n : ℕ) → (n == length b) ≡ false → n ≢ length b
not_the_end b n differs same = cc (eq-eqb n (length b) same)

-- so bytes follow the volume
pub goes_on : (b : List ℕ) (f : Fault) (v : Meaning) (n : ℕ) → Accepted (take n b) v → (n ≡ length_of v) × (n ≤ length b)
    → (n == length b) ≡ false → f ≡ outer_fault kinds.Length n → BytesFollowVolume b f
goes_on b f v n accepted (own, within) differs is = (v, rw own at accepted, omega (arith, own, within, not_the_end b n differs), rw own at is)

-- an input that goes on after its volume is not a volume
pub end_refused : (b : List ℕ) (f : Fault) (v : Meaning) (n : ℕ) → Accepted (take n b) v → (n ≡ length_of v) × (n ≤ length b)
    → (n == length b) ≡ false → f ≡ outer_fault kinds.Length n
    → ((k : ℕ) (m : Meaning) → k ≤ length b → Denotes depth_limit (take k b) m → (m ≡ v) × (k ≡ n)) → NotRead b f
end_refused b f v n accepted long differs is only = record {
  none = λ m d. not_the_end b n differs (sym (only (length b) m (omega arith) (input_prefix b m d.1)).1);
  first = inr (goes_on b f v n accepted long differs is);
}

-- an input that ends with the volume that it begins with is this volume
pub end_found : (b : List ℕ) (v : Meaning) (n : ℕ) → Accepted (take n b) v → (n == length b) ≡ true → Accepted b v
end_found b v n d same = rw (take_all n b (omega (arith, eqb-true n (length b) same))) at d

-- an input that ends with the volume that it begins with is not any other volume
pub end_only : (b : List ℕ) (v : Meaning) (n : ℕ)
    → ((k : ℕ) (m : Meaning) → k ≤ length b → Denotes depth_limit (take k b) m → (m ≡ v) × (k ≡ n)) → (m : Meaning) → Accepted b m → m ≡ v
end_only b v n only m d = (only (length b) m (omega arith) (input_prefix b m d.1)).0

-- ---- memory

-- memory runs out only if the input begins with the header of a volume
pub ran_out : {P : Type 0} (b : List ℕ) (f : Fault) → (f ≡ out_of_memory) ⊎ P → (f ≡ out_of_memory → BeginsWithHeader b)
    → MemoryRanOut b f ⊎ P
ran_out b f (inl want) front = inl (want, front want)
ran_out b f (inr why) front = inr why

-- ---- the kinds of faults

-- the kind is neither ReadFault nor WriteFault
abbrev pub IsOfInput : FaultKind → Type 0
IsOfInput kind = (kind ≢ kinds.ReadFault) × (kind ≢ kinds.WriteFault)

-- OutOfMemory is neither ReadFault nor WriteFault. So to prove this of the kind of f, f may be assumed not to be out of
-- memory
pub input_kind : (f : Fault) → (f ≢ out_of_memory → IsOfInput f.kind) → IsOfInput f.kind
input_kind f known = grind (arith, common_steps, want_known)

-- so the kind of a fault whose condition holds in the bytes is neither ReadFault nor WriteFault
pub stood_kind : (b : List ℕ) (f : Fault) → (f ≢ out_of_memory → FaultHolds b f) → IsOfInput f.kind
stood_kind b f stands = input_kind f (λ other. (stands_other b f kinds.ReadFault refl (stands other), stands_other b f _ refl (stands other)))
