-- Bytes begin with a list of blocks, or have a first fault: the blocks are read one by one, and each is the last one, or
-- has a fault, or the next one is read.
use Rattle.std.proofs.Common.{◌≡◌, ◌⊎◌, ◌≤◌, ◌<◌, ℕ, zero, suc, ◌+◌, ◌*◌, [], ◌∷◌, ◌++◌, ◌==◌, List, length, take, drop, refl, arith, inl, inr}
use Rattle.std.proofs.Common.{eqb-true}
use Rattle.std.proofs.lemmas.Bool.{cases_Bool, eqb-false}
use Rattle.fv_base.proofs.Laws.{IsBytes, bytes_drop, first_is, le_at, Option, None, Some}
use Rattle.fv_base.specs.inner.Verdicts.{first_fault}
use Rattle.fv_hob.specs.Words.{HobForm, IsHob, IsHobList, IsFirstHobFault, hob_checks, hob_in, hob_type}
use Rattle.fv_hob.specs.declared.fault.HobFault.{HobFault}
use Rattle.fv_hob.specs.declared.fault.HobFaultKind.{HobFaultKind}
use Rattle.fv_hob.proofs.HobCheckLemmas.{stands}
use Rattle.fv_hob.proofs.HobReadLemmas.{HobsKept, kept, ended, first_here, one_more}

abbrev Decided : List ℕ → Type 0
Decided b = ((all : List HobForm) × (n : ℕ) × (n ≤ length b) × IsHobList all (take n b)) ⊎ ((f : HobFault) × IsFirstHobFault b f)

walk : (b : List ℕ) → IsBytes b → (fuel at : ℕ) (items : List HobForm) → HobsKept b items at → length b < at + 8 * fuel → Decided b
walk b small zero at items k short = absurd (omega (arith, k.inside, short))
walk b small (suc fuel) at items k short = go (walk b small fuel) (first_fault (hob_checks (length items == 0) (drop at b))) refl where
  go : ((next : ℕ) (more : List HobForm) → HobsKept b more next → length b < next + 8 * fuel → Decided b) → (o : Option HobFaultKind) → first_fault (hob_checks (length items == 0) (drop at b)) ≡ o → Decided b
  go go_on (Some kind) is =
      let f : HobFault = record { kind = kind; offset = at } in
      inr (f, first_here b items at (length items == 0) f refl k refl (first_is (hob_checks (length items == 0) (drop at b)) kind is))
  go go_on None is =
      let r : List ℕ = drop at b in
      let c : List ℕ = take (le_at 2 2 r) r in
      let s = stands (length items == 0) r (bytes_drop at b small) is in
      let h : HobForm = hob_in c in
      let block : IsHob h c = record { block = s.block; hob_is = refl } in
      elim (cases_Bool (hob_type h.kind == 0xffff)) [
        | inl ends ↦
            let e = ended b items (items ++ h ∷ []) h c at (length items == 0) refl k s block (eqb-true (hob_type h.kind) 0xffff ends) refl in
            inl (items ++ h ∷ [], at + length c, e.0, e.1)
        | inr more ↦
            let next = one_more b items h c at (length items == 0) refl k s block in
            go_on (at + length c) (items ++ h ∷ [])
            (kept b items (items ++ h ∷ []) h c at (length items == 0) refl k s block (eqb-false (hob_type h.kind) 0xffff more) refl)
            (omega (arith, short, next.some))
      ]

pub hobs_decided : (b : List ℕ) → IsBytes b
    → ((all : List HobForm) × (n : ℕ) × (n ≤ length b) × IsHobList all (take n b)) ⊎ ((f : HobFault) × IsFirstHobFault b f)
hobs_decided b small =
    walk b small (suc (length b)) 0 [] (record { joined = refl; begins = tt; others = tt; inside = omega arith }) (omega arith)
