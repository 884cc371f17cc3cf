-- The words of joined bytes have the sum of the words of both parts, if the first part has even length.
use Rattle.std.proofs.Common.{◌≡◌, ◌+◌, ◌%◌, ℕ, [], ◌∷◌, ◌++◌, List, length, refl, ap, ◌∙◌, arith, sum}
use Rattle.std.proofs.lemmas.List.Sums.{sum_by-append}
use Rattle.fv_base.specs.Words.{words_of, le}

-- the words of joined bytes are the words of the first part and of the second, if the first part has even length
pub words_of-append : (a b : List ℕ) → length a % 2 ≡ 0 → words_of (a ++ b) ≡ words_of a ++ words_of b
words_of-append [] b even = refl
words_of-append (x ∷ []) b even = absurd (omega arith)
words_of-append (x ∷ y ∷ a) b even = ap (λ (ws : List ℕ). le (x ∷ y ∷ []) ∷ ws) (words_of-append a b (omega arith))

pub sum-words_of-append : (a b : List ℕ) → length a % 2 ≡ 0 → sum (words_of (a ++ b)) ≡ sum (words_of a) + sum (words_of b)
sum-words_of-append a b even = ap sum (words_of-append a b even) ∙ sum_by-append (λ (x : ℕ). x) (words_of a) (words_of b)
