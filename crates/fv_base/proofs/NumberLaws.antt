-- The numbers that bytes spell have bounds. Both parts of a joined list of bytes are lists of bytes, and so is a byte
-- that is repeated.
use Rattle.std.proofs.Common.{◌≡◌, ◌<◌, ◌+◌, ◌*◌, ◌^◌, ℕ, [], ◌∷◌, ◌++◌, zero, suc, List, length, drop, refl, subst, arith, replicate, take_at}
use Rattle.std.proofs.Common.{drop_at}
use Rattle.std.proofs.Math.Nat.{pow-suc}
use Rattle.fv_base.specs.Words.{IsBytes, le, field}
use Rattle.fv_base.proofs.FieldLemmas.{bytes_behind, bytes_take, bytes_drop, bytes_cons, none_at}

-- n bytes spell a number below 256 ^ n
pub le_below : (n : ℕ) (b : List ℕ) → IsBytes b → length b ≡ n → le b < 256 ^ n
le_below zero [] h l = omega arith
le_below zero (x ∷ b) h l = absurd (omega (arith, l))
le_below (suc n) [] h l = absurd (omega (arith, l))
le_below (suc n) (x ∷ b) h l =
    step x (le b) (256 ^ n) (256 ^ suc n) (pow-suc 256 n) (h 0) (le_below n b (bytes_behind x b h) (omega (arith, l)))
  where
    step : (x m p q : ℕ) → q ≡ p * 256 → x < 256 → m < p → x + 256 * m < q
    step x m p q is small below = omega arith

-- both parts of a joined list of bytes are lists of bytes
pub bytes_front : (a b : List ℕ) → IsBytes (a ++ b) → IsBytes a
bytes_front a b h = subst IsBytes (take_at a b (length a) refl) (bytes_take (length a) (a ++ b) h)

pub bytes_back : (a b : List ℕ) → IsBytes (a ++ b) → IsBytes b
bytes_back a b h = subst IsBytes (drop_at a b (length a) refl) (bytes_drop (length a) (a ++ b) h)

-- a list that repeats a byte is a list of bytes
pub bytes_replicate : (n x : ℕ) → x < 256 → IsBytes (replicate n x)
bytes_replicate zero x h = none_at
bytes_replicate (suc n) x h = bytes_cons x (replicate n x) h (bytes_replicate n x h)

-- a field of n bytes spells a number below 256 ^ n
pub field_below : (at n : ℕ) (b : List ℕ) → IsBytes b → length (field at n b) ≡ n → le (field at n b) < 256 ^ n
field_below at n b h l = le_below n (field at n b) (bytes_take n (drop at b) (bytes_drop at b h)) l
