-- The attribute bits of a file: tests of single bits, and attributes with and without bit 0x01, which says that the
-- header is large.
use Rattle.std.proofs.Common.{◌≡◌, ℕ, ◌+◌, ◌/◌, ◌%◌, ◌<◌, ◌*◌, ◌==◌, bit_and, bit_or, ap, ◌∙◌, arith, true, false}
use Rattle.fv_base.proofs.Laws.{Bool, refl, slice_index, common_steps, bit_at, nat_tests, and_pow, bit_at-lt, alignments, alignment_of, one_bit}
use Rattle.std.proofs.lemmas.Nat.{and_mask, or_disjoint}
use Rattle.fv_file.specs.Words.{is_large, is_fixed, is_summed, with_large}

-- ---- single bits

pub bit_2 : (a : ℕ) → (bit_and a 4 == 4) ≡ (a / 4 % 2 == 1)
bit_2 a = ap (λ n. n == 4) (and_pow a 2) ∙ one_bit (bit_at a 2) 4 (bit_at-lt a 2) (omega arith)

pub bit_6 : (a : ℕ) → (bit_and a 64 == 64) ≡ (a / 64 % 2 == 1)
bit_6 a = ap (λ n. n == 64) (and_pow a 6) ∙ one_bit (bit_at a 6) 64 (bit_at-lt a 6) (omega arith)

-- attributes without bit 0x01 are an even number
pub small_even : (n : ℕ) → is_large n ≡ false → n % 2 ≡ 0
small_even n small = grind (arith, nat_tests)

-- setting bit 0x01 adds 1
pub large_set : (a b : ℕ) → is_large a ≡ false → b ≡ bit_or a 1 → b ≡ a + 1
large_set a b small set = set ∙ or_disjoint a 1 (and_mask a 1 ∙ small_even a small)

-- attributes with bit 0x01 are the attributes of a large header
pub set_large : (n : ℕ) → is_large n ≡ false → is_large (n + 1) ≡ true
set_large n small = grind (arith, common_steps, small_even, nat_tests)

-- ---- with bit 0x01 set for a large header: the other bits, and so the alignment, are unchanged

pub fixed_with : (l : Bool) (a : ℕ) → is_large a ≡ false → is_fixed (with_large l a) ≡ is_fixed a
fixed_with l a h = grind (arith, common_steps, small_even) steps 150000

pub summed_with : (l : Bool) (a : ℕ) → is_large a ≡ false → is_summed (with_large l a) ≡ is_summed a
summed_with l a h = grind (arith, common_steps, small_even) steps 150000

pub alignment_with : (l : Bool) (a : ℕ) → is_large a ≡ false → alignment_of (with_large l a) ≡ alignment_of a
alignment_with false a h = refl
alignment_with true a h = ap (slice_index alignments) (same a (small_even a h)) where
  same : (a : ℕ) → a % 2 ≡ 0 → (a + 1) / 8 % 8 + 8 * ((a + 1) / 2 % 2) ≡ a / 8 % 8 + 8 * (a / 2 % 2)
  same a e = omega arith

-- attributes that are a byte stay a byte
pub with_large_small : (l : Bool) (a : ℕ) → is_large a ≡ false → a < 256 → with_large l a < 256
with_large_small true a h l = let e = small_even a h in omega (arith, e)
with_large_small false a h l = l
