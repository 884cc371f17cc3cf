-- Each step of the register can be undone, so that a changed byte changes the sum.
use Rattle.std.proofs.Common.{◌≡◌, ◌<◌, ◌-◌, ◌/◌, ◌%◌, ◌^◌, ℕ, zero, suc, List, [], ◌∷◌, ◌++◌, Bool, true, false, nat_eq, if◌then◌else◌, refl, ap, sym, ◌∙◌, arith, bit_xor}
use Rattle.std.proofs.lemmas.Bool.{eqb-true}
use Rattle.std.proofs.lemmas.Bool.Decides.{nat_tests}
use Rattle.std.proofs.lemmas.Nat.{xor_shr, xor_comm, xor_of_32}
use Rattle.std.specs.Int.Bits.{xor_assoc, xor_self, xor_zero_l, xor_zero_r}
use Rattle.std.specs.List.{AllByRecursion}
use Rattle.fv_crc32.specs.Words.{polynomial, after_bit, after_bits, after_byte, after_bytes, IsByte, crc32}

added_twice : (a p : ℕ) → bit_xor (bit_xor a p) p ≡ a
added_twice a p = xor_assoc a p p ∙ (ap (bit_xor a) (xor_self p) ∙ xor_zero_r a)

cancelled : (a b p : ℕ) → bit_xor a p ≡ bit_xor b p → a ≡ b
cancelled a b p e = sym (added_twice a p) ∙ (ap (λ x. bit_xor x p) e ∙ added_twice b p)

even : (r : ℕ) → nat_eq (r % 2) 1 ≡ false → r % 2 ≡ 0
even r h = grind (arith, nat_tests)

-- the highest bit of a register shows that the bit that left was 1
highest : (half : ℕ) → half < 2 ^ 31 → bit_xor half polynomial / 2 ^ 31 ≡ 1
highest half h =
    let none : half / 2 ^ 31 ≡ 0 = omega arith in
    xor_shr half polynomial 31 ∙ (ap (λ x. bit_xor x (polynomial / 2 ^ 31)) none ∙ xor_zero_l 1)

bit_back : (b c : Bool) (r s : ℕ) → nat_eq (r % 2) 1 ≡ b → nat_eq (s % 2) 1 ≡ c → r < 2 ^ 32 → s < 2 ^ 32 →
    (if b then bit_xor (r / 2) polynomial else r / 2) ≡ (if c then bit_xor (s / 2) polynomial else s / 2) → r ≡ s
bit_back true true r s p q below small e =
    let halves : r / 2 ≡ s / 2 = cancelled (r / 2) (s / 2) polynomial e in
    let odd = eqb-true (r % 2) 1 p in
    let other = eqb-true (s % 2) 1 q in
    omega arith
bit_back false false r s p q below small e =
    let one = even r p in
    let other = even s q in
    omega arith
bit_back true false r s p q below small e =
    let high = highest (r / 2) (omega arith) in
    let low : s / 2 / 2 ^ 31 ≡ 0 = omega arith in
    absurd (omega (arith, sym high ∙ (ap (λ x. x / 2 ^ 31) e ∙ low)))
bit_back false true r s p q below small e =
    let high = highest (s / 2) (omega arith) in
    let low : r / 2 / 2 ^ 31 ≡ 0 = omega arith in
    absurd (omega (arith, sym high ∙ (ap (λ x. x / 2 ^ 31) (sym e) ∙ low)))

branch_below : (b : Bool) (m n k : ℕ) → m < k → n < k → (if b then m else n) < k
branch_below true m n k p q = p
branch_below false m n k p q = q

bit_below : (r : ℕ) → r < 2 ^ 32 → after_bit r < 2 ^ 32
bit_below r h = branch_below (nat_eq (r % 2) 1) (bit_xor (r / 2) polynomial) (r / 2) (2 ^ 32) (xor_of_32 (r / 2) polynomial (omega arith) (omega arith)) (omega arith)

bits_below : (n r : ℕ) → r < 2 ^ 32 → after_bits n r < 2 ^ 32
unfolding after_bits
bits_below zero r h = h
bits_below (suc n) r h = bits_below n (after_bit r) (bit_below r h)

bits_back : (n r s : ℕ) → r < 2 ^ 32 → s < 2 ^ 32 → after_bits n r ≡ after_bits n s → r ≡ s
unfolding after_bits
bits_back zero r s below small e = e
bits_back (suc n) r s below small e =
    bit_back (nat_eq (r % 2) 1) (nat_eq (s % 2) 1) r s refl refl below small (bits_back n (after_bit r) (after_bit s) (bit_below r below) (bit_below s small) e)

added_below : (r b : ℕ) → r < 2 ^ 32 → IsByte b → bit_xor r b < 2 ^ 32
added_below r b h byte = xor_of_32 r b h (omega arith)

byte_below : (r b : ℕ) → r < 2 ^ 32 → IsByte b → after_byte r b < 2 ^ 32
byte_below r b h byte = bits_below 8 (bit_xor r b) (added_below r b h byte)

register_back : (r s b : ℕ) → r < 2 ^ 32 → s < 2 ^ 32 → IsByte b → after_byte r b ≡ after_byte s b → r ≡ s
register_back r s b below small byte e = cancelled r s b (bits_back 8 (bit_xor r b) (bit_xor s b) (added_below r b below byte) (added_below s b small byte) e)

byte_back : (r b c : ℕ) → r < 2 ^ 32 → IsByte b → IsByte c → after_byte r b ≡ after_byte r c → b ≡ c
byte_back r b c below byte other e =
    cancelled b c r (xor_comm b r ∙ (bits_back 8 (bit_xor r b) (bit_xor r c) (added_below r b below byte) (added_below r c below other) e ∙ xor_comm r c))

registers_below : (r : ℕ) (bytes : List ℕ) → r < 2 ^ 32 → AllByRecursion IsByte bytes → after_bytes r bytes < 2 ^ 32
registers_below r [] h all = h
registers_below r (b ∷ bytes) h all = registers_below (after_byte r b) bytes (byte_below r b h all.0) all.1

registers_back : (r s : ℕ) (bytes : List ℕ) → r < 2 ^ 32 → s < 2 ^ 32 → AllByRecursion IsByte bytes → after_bytes r bytes ≡ after_bytes s bytes → r ≡ s
registers_back r s [] below small all e = e
registers_back r s (b ∷ bytes) below small all e =
    register_back r s b below small all.0 (registers_back (after_byte r b) (after_byte s b) bytes (byte_below r b below all.0) (byte_below s b small all.0) all.1 e)

joined : (r : ℕ) (front back : List ℕ) → after_bytes r (front ++ back) ≡ after_bytes (after_bytes r front) back
joined r [] back = refl
joined r (b ∷ front) back = joined (after_byte r b) front back

-- a change of one byte changes the sum
pub changed_byte : (front back : List ℕ) (b c : ℕ) → AllByRecursion IsByte front → AllByRecursion IsByte back → IsByte b → IsByte c → crc32 (front ++ b ∷ back) ≡ crc32 (front ++ c ∷ back) → b ≡ c
changed_byte front back b c first last byte other e =
    let r : ℕ = after_bytes (2 ^ 32 - 1) front in
    let below : r < 2 ^ 32 = registers_below (2 ^ 32 - 1) front (omega arith) first in
    let one : ℕ = after_bytes (after_byte r b) back in
    let two : ℕ = after_bytes (after_byte r c) back in
    let small : one < 2 ^ 32 = registers_below (after_byte r b) back (byte_below r b below byte) last in
    let little : two < 2 ^ 32 = registers_below (after_byte r c) back (byte_below r c below other) last in
    let p : after_bytes (2 ^ 32 - 1) (front ++ b ∷ back) ≡ one = joined (2 ^ 32 - 1) front (b ∷ back) in
    let q : after_bytes (2 ^ 32 - 1) (front ++ c ∷ back) ≡ two = joined (2 ^ 32 - 1) front (c ∷ back) in
    let same : 2 ^ 32 - 1 - one ≡ 2 ^ 32 - 1 - two = ap (λ x. 2 ^ 32 - 1 - x) (sym p) ∙ (e ∙ ap (λ x. 2 ^ 32 - 1 - x) q) in
    byte_back r b c below byte other (registers_back (after_byte r b) (after_byte r c) back (byte_below r b below byte) (byte_below r c below other) last (omega (arith, same, small, little)))
