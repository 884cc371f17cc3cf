-- A look-up by number finds the item of this number among the items that an iterator yields.
use Rattle.std.proofs.Common.{◌≡◌, ℕ, ◌+◌, zero, suc, List, None, Option, refl, ap, arith}
use Rattle.fv_base.proofs.Laws.{SkipsThenYields, nth_from_yields_List, option_map}
use Rattle.std.proofs.lemmas.Iterator.{YieldsList}
use Rattle.fv_tree.specs.Words.{instance_of}

-- `numbered` returns the item of its instance
pub numbered_is : {S A B : Type 0} {steps : S → Option A → S → Type 0} {v : A → B} {s : S} {all : List B} (r : Option A) (n : ℕ)
    → (n ≡ 0 → r ≡ None) → ((k : ℕ) → n ≡ k + 1 → (end : S) × SkipsThenYields steps s k r end) → YieldsList steps v s all
    → option_map v r ≡ instance_of n all
numbered_is {v = v} r zero none nth yields = ap (option_map v) (none refl)
numbered_is r (suc k) none nth yields = let ran = nth k (omega arith) in nth_from_yields_List r ran.0 k ran.1 yields
