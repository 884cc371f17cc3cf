use Rattle.std.proofs.Common.{◌≡◌, ◌⊎◌, ℕ, ap, inl, inr, replicate, sym}
use Rattle.fv_base.proofs.sink.fill_block.Goals as goal

pub returns-then-byte-eq0-clause-same : goal.returns-then-byte-eq0-clause-same
returns-then-byte-eq0-clause-same c = ap (λ (n : ℕ). replicate 65536 n) (sym c.if-byte-eq0.true)

pub returns-else-byte-eq0-clause-same : goal.returns-else-byte-eq0-clause-same
returns-else-byte-eq0-clause-same c = ap (λ (n : ℕ). replicate 65536 n) (sym (other c.args.byte c.requires c.if-byte-eq0.false)) where
  other : (n : ℕ) → (n ≡ 0) ⊎ (n ≡ 255) → (n ≡ 0 → ⊥) → n ≡ 255
  other n (inl zero) not = absurd (not zero)
  other n (inr ones) not = ones
