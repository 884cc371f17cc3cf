-- The sum of the 16-bit words of bytes that come in parts. The laws below are proofs. They are in specs/ because a
-- ghost member cites the last of them.
use Rattle.std.specs.Prelude.{◌≡◌, ℕ, ◌+◌, ◌*◌, ◌%◌, List, [], ◌∷◌, Bool, true, false, not}
use Rattle.std.proofs.Common.{◌++◌, refl, sym, ◌∙◌, ap, arith}
use Rattle.fv_base.specs.Words.{WalkLaws}
use Rattle.fv_base.specs.inner.SinkLaws.{sums_joined}

-- the number that bytes add to a sum of 16-bit words; `high` says whether the first byte is the high byte of a word
abbrev pub word_weight : Bool → List ℕ → ℕ
word_weight high [] = 0
word_weight false (x ∷ xs) = x + word_weight true xs
word_weight true (x ∷ xs) = 256 * x + word_weight false xs

-- whether the byte after these bytes is the high byte of a word
abbrev pub is_high_after : Bool → List ℕ → Bool
is_high_after high [] = high
is_high_after high (x ∷ xs) = is_high_after (not high) xs

-- from s to t the total has grown by the number that the bytes add, modulo 65536; `high` says whether the next byte is
-- the high byte of a word
abbrev pub AddsWords : {S : Type 0} (total : S → ℕ) (high : S → Bool) → S → List ℕ → S → Type 0
AddsWords total high s bytes t =
    (high t ≡ is_high_after (high s) bytes) × (total t % 65536 ≡ (total s + word_weight (high s) bytes) % 65536)

pub word_weight-append : (high : Bool) (a b : List ℕ)
    → word_weight high (a ++ b) ≡ word_weight high a + word_weight (is_high_after high a) b
word_weight-append high [] b = omega arith
word_weight-append false (x ∷ a) b = omega (arith, word_weight-append true a b)
word_weight-append true (x ∷ a) b = omega (arith, word_weight-append false a b)

pub is_high_after-append : (high : Bool) (a b : List ℕ)
    → is_high_after high (a ++ b) ≡ is_high_after (is_high_after high a) b
is_high_after-append high [] b = refl
is_high_after-append high (x ∷ a) b = is_high_after-append (not high) a b

pub adds_joined : (m n k : ℕ) (p q r : Bool) (a b : List ℕ) → q ≡ is_high_after p a → r ≡ is_high_after q b
    → n % 65536 ≡ (m + word_weight p a) % 65536 → k % 65536 ≡ (n + word_weight q b) % 65536
    → (r ≡ is_high_after p (a ++ b)) × (k % 65536 ≡ (m + word_weight p (a ++ b)) % 65536)
adds_joined m n k p q r a b first next left right = (
  next ∙ ap (λ (h : Bool). is_high_after h b) first ∙ sym (is_high_after-append p a b),
  sums_joined 65536 m n k (word_weight p a) (word_weight q b) left right
      ∙ ap (λ (w : ℕ). (m + w) % 65536)
      (ap (λ (h : Bool). word_weight p a + word_weight h b) first ∙ sym (word_weight-append p a b)),
)

pub adds_words_by : {S : Type 0} (total : S → ℕ) (high : S → Bool) → WalkLaws (AddsWords total high)
adds_words_by total high = record {
  none = λ s. (refl, omega arith);
  joined = λ {s} {t} {u} {a} {b} p q. adds_joined (total s) (total t) (total u) (high s) (high t) (high u) a b p.0 q.0 p.1 q.1;
}
