-- The first fault of a body is within the body, or at its end.
use Rattle.std.proofs.Common.{◌≡◌, ◌≤◌, ◌<◌, ◌⊎◌, ℕ, ◌+◌, [], ◌∷◌, ◌==◌}
use Rattle.fv_base.proofs.Laws.{inl, inr, Some, suc, List, length, drop, refl, arith, Bool, true, false, Option, length-drop, cases_lt, first_is}
use Rattle.fv_base.proofs.Laws.{not_at_most, one_fault, outer_fault, AllByRecursion, first_among, common_steps, Check, IsFirstFault, erased_byte}
use Rattle.fv_base.specs.declared.fault.Fault.{Fault}
use Rattle.fv_base.specs.declared.flash.FileSystem.{FileSystem}
use Rattle.fv_base.specs.declared.flash.Polarity.{Polarity}
use Rattle.fv_base.specs.declared.fault.FaultKind.TheVariants as kinds
use Rattle.fv_file.specs.Words.{IsFirstCellFault, cell_checks, file_checks, leading_count, state_checks}
use Rattle.fv_file.specs.declared.state.FileState.{FileState}
use Rattle.fv_base.specs.inner.Verdicts.{first_fault}

-- the number of leading bytes of one value is at most the number of bytes
run_within : (e : ℕ) (r : List ℕ) → leading_count e r ≤ length r
run_within e [] = omega arith
run_within e (x ∷ xs) = go (x == e) refl (run_within e xs) where
  go : (t : Bool) → (x == e) ≡ t → leading_count e xs ≤ length xs → leading_count e (x ∷ xs) ≤ suc (length xs)
  go true is low = rw is (omega (arith, low))
  go false is low = rw is (omega arith)

module _ (at : ℕ) (r : List ℕ) where
  -- the fault of a check is within the bytes from a place on, or at their end
  abbrev Low : Check Fault → Type 0
  Low c = c.fault.place.offset ≤ at + length r

  -- the checks of a file have their faults within the bytes from the place on, or at their end
  file_within : (s : FileSystem) (current : Bool) → 24 ≤ length r → AllByRecursion Low (file_checks s current at r)
  file_within s current long =
      (omega (arith, long), (omega (arith, long), (omega arith, (omega (arith, long), (omega (arith, long), (omega (arith, long), tt))))))

  -- the checks for the state of a cell have their faults there too
  state_within : (o : Option FileState) (s : FileSystem) → 24 ≤ length r → AllByRecursion Low (state_checks o s at r)
  state_within o s long = grind (arith, common_steps, file_within) steps 150000

  -- the first fault of a cell is within the bytes from its place on, or at their end
  cell_within : (s : FileSystem) (p : Polarity) (f : Fault) → IsFirstFault (cell_checks s p at r) f → f.place.offset ≤ at + length r
  cell_within s p f first = go (cases_lt (length r) 24)
    where
      low : at + leading_count (erased_byte p) r ≤ at + length r
      low = omega (arith, run_within (erased_byte p) r)

      go : (length r < 24) ⊎ (24 ≤ length r) → f.place.offset ≤ at + length r
      go (inr long) = first_among (λ (g : Fault). g.place.offset ≤ at + length r) _ f (low, state_within _ s long) first
      go (inl short) =
          let stray : Fault = outer_fault kinds.FreeSpace (at + leading_count (erased_byte p) r) in
          let is : first_fault (cell_checks s p at r) ≡ Some stray = rw (not_at_most 24 (length r) short) in
          rw (one_fault (cell_checks s p at r) f stray first (first_is (cell_checks s p at r) stray is)) low

-- the first fault of the cells of a body is within the body, or at its end
pub body_within : (s : FileSystem) (p : Polarity) (from : ℕ) (body : List ℕ) (f : Fault) → IsFirstCellFault s p from body f
    → f.place.offset ≤ from + length body
body_within s p from body f first =
    let low = cell_within (from + first.at) (drop first.at body) s p f first.fails in
    omega (arith, low, first.inside, length-drop first.at body)
