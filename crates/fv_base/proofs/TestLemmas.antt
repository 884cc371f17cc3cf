-- Consequences of tests of numbers and of bits that hold, or that do not hold.
use Rattle.std.proofs.Common.{◌≡◌, ◌<◌, ◌*◌, ℕ, ◌==◌, ◌≢◌, ◌||◌, if◌then◌else◌, arith, Bool, true, false, nat_le}
use Rattle.std.proofs.Common.{eq-eqb, eqb-true, leb-true}
use Rattle.std.proofs.lemmas.Grind.{common_steps}

pub if_true : {A : Type 0} → (b : Bool) (x y : A) → b ≡ true → (if b then x else y) ≡ x
if_true b x y h = grind (arith, common_steps)

pub if_false : {A : Type 0} → (b : Bool) (x y : A) → b ≡ false → (if b then x else y) ≡ y
if_false b x y h = grind (arith, common_steps)

pub not_at_most : (n m : ℕ) → m < n → nat_le n m ≡ false
not_at_most n m h = grind (arith, common_steps, leb-true)

pub not_equal : (n m : ℕ) → n ≢ m → (n == m) ≡ false
not_equal n m h = grind (arith, common_steps, eqb-true)

-- the test of a mask with a single bit holds exactly if the bit is set
pub one_bit : (b m : ℕ) → b < 2 → 0 < m → (b * m == m) ≡ (b == 1)
one_bit b m l some = grind (arith, common_steps, not_equal, eq-eqb)

-- if an `or` of two tests is false, both tests are
pub or_parts : (a b : Bool) → (a || b) ≡ false → (a ≡ false) × (b ≡ false)
or_parts a b h = grind (arith, common_steps)

pub or_both : (a b : Bool) → a ≡ false → b ≡ false → (a || b) ≡ false
or_both a b p q = grind (arith, common_steps)

-- a flag is not both true and false
pub up_is_not_down : (flag : Bool) → flag ≡ true → flag ≡ false → ⊥
up_is_not_down flag up down = cc
