-- The test of one bit of a volume's attributes.
use Rattle.std.proofs.Common.{◌≡◌, ℕ, ◌/◌, ◌%◌, ◌==◌, bit_and}
use Rattle.fv_base.proofs.Laws.{ap, ◌∙◌, arith, bit_at, and_pow, bit_at-lt, one_bit}

pub bit_11 : (a : ℕ) → (bit_and a 2048 == 2048) ≡ (a / 2048 % 2 == 1)
bit_11 a = ap (λ n. n == 2048) (and_pow a 11) ∙ one_bit (bit_at a 11) 2048 (bit_at-lt a 11) (omega arith)
