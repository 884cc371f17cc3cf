use Rattle.std.proofs.Common.{◌≡◌, ◌<◌, ◌+◌, ◌*◌, ◌/◌, ◌%◌, ◌^◌, ℕ, zero, suc, List, Bool, true, false, nat_eq, slice_index, if◌then◌else◌, refl, ap, sym, ◌∙◌, inl, inr, arith, bit_xor}
use Rattle.std.proofs.lemmas.Bool.{and_parts, cases_lt, eqb-true}
use Rattle.std.proofs.lemmas.Nat.{xor_mod, xor_shr, xor_block, xor_comm, shl-shr}
use Rattle.std.specs.Int.Bits.{xor_assoc, xor_zero_l, xor_zero_r}
use Rattle.std.proofs.Math.Nat.{pow-suc, mul_assoc}
use Rattle.fv_crc32.specs.Words.{polynomial, after_bit, after_bits}
use Rattle.fv_crc32.specs.inner.Tables.{is_table}
use Rattle.fv_crc32.specs.declared.table.TheConstants.{TABLE}

table_is_right : is_table TABLE 256 ≡ true
unfolding after_bits
table_is_right = refl

number_of_table : (table : List ℕ) (n k : ℕ) → is_table table n ≡ true → k < n → slice_index table k ≡ after_bits 8 k
number_of_table table zero k h lt = absurd (omega arith)
number_of_table table (suc n) k h lt =
    let parts = and_parts (nat_eq (slice_index table n) (after_bits 8 n)) (is_table table n) h in
    elim (cases_lt k n) [
      | inl below ↦ number_of_table table n k parts.1 below
      | inr top ↦
          let e : k ≡ n = omega arith in
          rw e (eqb-true (slice_index table n) (after_bits 8 n) parts.0)
    ]

-- a number of the table
pub table_at : (k : ℕ) → k < 256 → slice_index TABLE k ≡ after_bits 8 k
table_at k lt = number_of_table TABLE 256 k table_is_right lt

added_before : (b : Bool) (q h : ℕ) → (if b then bit_xor (bit_xor q h) polynomial else bit_xor q h) ≡ bit_xor q (if b then bit_xor h polynomial else h)
added_before true q h = xor_assoc q h polynomial
added_before false q h = refl

-- what is above the lowest bit moves by one bit
bit_moves : (q y : ℕ) → after_bit (bit_xor (q * 2) y) ≡ bit_xor q (after_bit y)
bit_moves q y =
    let even : q * 2 % 2 ≡ 0 = omega arith in
    let parity : bit_xor (q * 2) y % 2 ≡ y % 2 = xor_mod (q * 2) y 1 ∙ (ap (λ z. bit_xor z (y % 2)) even ∙ xor_zero_l (y % 2)) in
    let half : bit_xor (q * 2) y / 2 ≡ bit_xor q (y / 2) = xor_shr (q * 2) y 1 ∙ ap (λ z. bit_xor z (y / 2)) (shl-shr q 1) in
    ap (λ m. if nat_eq m 1 then bit_xor (bit_xor (q * 2) y / 2) polynomial else bit_xor (q * 2) y / 2) parity
    ∙ (ap (λ m. if nat_eq (y % 2) 1 then bit_xor m polynomial else m) half ∙ added_before (nat_eq (y % 2) 1) q (y / 2))

twice : (p n : ℕ) → p * 2 ^ suc n ≡ p * 2 ^ n * 2
twice p n = ap (λ q. p * q) (pow-suc 2 n) ∙ sym (mul_assoc p (2 ^ n) 2)

-- what is above the lowest n bits moves by n bits
bits_move : (n p y : ℕ) → after_bits n (bit_xor (p * 2 ^ n) y) ≡ bit_xor p (after_bits n y)
unfolding after_bits
bits_move zero p y = let e : p * 2 ^ zero ≡ p = omega arith in ap (λ q. bit_xor q y) e
bits_move (suc n) p y =
    let e : p * 2 ^ suc n ≡ p * 2 ^ n * 2 = twice p n in
    ap (λ q. after_bits n (after_bit (bit_xor q y))) e ∙ (ap (after_bits n) (bit_moves (p * 2 ^ n) y) ∙ bits_move n p (after_bit y))

-- a number from its highest bits and its lowest 8
put_together : (x : ℕ) → bit_xor (x / 256 * 2 ^ 8) (x % 256) ≡ x
put_together x =
    let low : x % 256 < 2 ^ 8 = omega arith in
    let high : x / 256 * 2 ^ 8 + 0 ≡ x / 256 * 2 ^ 8 = omega arith in
    let all : bit_xor (x / 256) 0 * 2 ^ 8 + bit_xor 0 (x % 256) ≡ x = rw (xor_zero_r (x / 256), xor_zero_l (x % 256)) (omega arith) in
    let lowest : 0 * 2 ^ 8 + x % 256 ≡ x % 256 = omega arith in
    ap (λ z. bit_xor z (x % 256)) (sym high) ∙ (ap (bit_xor (x / 256 * 2 ^ 8 + 0)) (sym lowest) ∙ (xor_block 8 (x / 256) 0 0 (x % 256) (omega arith) low ∙ all))

-- a byte by the table
pub by_table : (register byte : ℕ) → byte < 256 → bit_xor (after_bits 8 (bit_xor register byte % 256)) (register / 256) ≡ after_bits 8 (bit_xor register byte)
by_table register byte lt =
    let x : ℕ = bit_xor register byte in
    let none : byte / 2 ^ 8 ≡ 0 = omega arith in
    let high : x / 256 ≡ register / 256 = xor_shr register byte 8 ∙ (ap (bit_xor (register / 2 ^ 8)) none ∙ xor_zero_r (register / 256)) in
    xor_comm (after_bits 8 (x % 256)) (register / 256)
    ∙ (ap (λ q. bit_xor q (after_bits 8 (x % 256))) (sym high) ∙ (sym (bits_move 8 (x / 256) (x % 256)) ∙ ap (after_bits 8) (put_together x)))
