-- The sort of a state decides which checks a cell has, whether a file of this state is valid, and whether its header is
-- complete (`sorted`). Most other modules distinguish only the four sorts, not the seven states.
-- A State byte shows the state Free exactly if no bit of this byte was written (`free_bits`, `bits_free`).
use Rattle.std.proofs.Common.{◌≡◌, ℕ, ◌⊎◌}
use Rattle.fv_base.proofs.Laws.{arith, List, false, true, Some, ap, common_steps, nat_tests}
use Rattle.fv_base.specs.declared.flash.FileSystem.{FileSystem}
use Rattle.fv_file.specs.Words.{state_checks, is_alive, StateOf, bits_of, state_in, state_of}
use Rattle.fv_file.specs.declared.state.FileState.{FileState}
use Rattle.fv_file.specs.inner.CellVerdicts.{StateSort, Erased, Unfinished, Dead, Valid, is_unfinished, sort_of, sort_checks}
use Rattle.fv_file.specs.declared.state.FileState.TheVariants as states
use Rattle.fv_base.specs.declared.flash.Polarity.{Polarity}

-- the states of a sort
abbrev pub StatesOf : StateSort → FileState → Type 0
StatesOf Erased st = st ≡ states.Free
StatesOf Unfinished st = (st ≡ states.Construction) ⊎ (st ≡ states.HeaderInvalid)
StatesOf Dead st = (st ≡ states.HeaderValid) ⊎ (st ≡ states.Deleted)
StatesOf Valid st = is_alive st ≡ true

-- the properties of a state that follow from its sort
pub record Sorted (st : FileState) : Type 0 where
  pub states : StatesOf (sort_of st) st
  pub valid : is_alive st ≡ true → sort_of st ≡ Valid
  pub finished : is_alive st ≡ true → is_unfinished (Some st) ≡ false
  pub checks : (s : FileSystem) (at : ℕ) (r : List ℕ) → state_checks (Some st) s at r ≡ sort_checks (sort_of st) s (is_alive st) at r

pub sorted : (st : FileState) → Sorted st
sorted st = grind (arith, common_steps) steps 150000

-- a deleted file, and a file whose header is valid but not its data, are dead, and have a complete header
pub dead_state : (st state : FileState) → st ≡ state → (state ≡ states.HeaderValid) ⊎ (state ≡ states.Deleted)
    → (sort_of st ≡ Dead) × (is_alive st ≡ false) × (is_unfinished (Some st) ≡ false)
dead_state st state e k = grind (arith, common_steps)

free_in : (n : ℕ) → state_in n ≡ Some states.Free → n ≡ 0
free_in n is = grind (arith, nat_tests, is)

pub free_bits : (p : Polarity) (byte : ℕ) → StateOf byte p states.Free → bits_of p byte ≡ 0
unfolding state_of
free_bits p byte is = free_in (bits_of p byte) is

pub bits_free : (p : Polarity) (byte : ℕ) → bits_of p byte ≡ 0 → StateOf byte p states.Free
unfolding state_of
bits_free p byte is = ap state_in is
