-- A name of 16 bytes is two numbers, its halves, and the entries of an index are the names with the numbers of their
-- files.
use Rattle.std.proofs.Common.{◌≡◌, ◌≤◌, ◌<◌, ℕ, ◌+◌, [], ◌∷◌, ◌++◌, zero, suc, List, length, take, drop, get_or, refl, sym, ap, ◌∙◌, arith}
use Rattle.std.proofs.Common.{length-drop, length-take-le, take-append-drop, take_all}
use Rattle.fv_base.proofs.Laws.{Decides, bytes_eq, bytes_eq-Decides, bytes_of, IsBytes, field, bytes_drop, bytes_take}
use Rattle.std.specs.Int.{from_le_bytes, to_le_bytes, w64}
use Rattle.std.proofs.lemmas.Bool.Decides.{Decides-like}
use Rattle.std.proofs.lemmas.Nat.{le_bytes_8}
use Rattle.fv_base.specs.declared.guid.Guid.{Guid}
use Rattle.fv_names.specs.Words.{Entry, Halves, IsName, halves_in, halves_of, numbered}

-- ---- a name and its halves

half_back : (at : ℕ) (b : List ℕ) → IsBytes b → at + 8 ≤ length b → to_le_bytes w64 (from_le_bytes w64 (field at 8 b)) ≡ field at 8 b
half_back at b small within =
    let long : length (field at 8 b) ≡ 8 = length-take-le 8 (drop at b) (omega (arith, within, length-drop at b)) in
    le_bytes_8 (field at 8 b) (from_le_bytes w64 (field at 8 b)) long (bytes_take 8 (drop at b) (bytes_drop at b small)) refl

-- the bytes of the halves of a name are the name
halves_back : (name : Guid) → IsName name
    → to_le_bytes w64 (halves_of name).0 ++ to_le_bytes w64 (halves_of name).1 ≡ bytes_of name
halves_back name whole =
    let b : List ℕ = bytes_of name in
    let long : length b ≡ 16 = whole.0 in
    let rest : take 8 (drop 8 b) ≡ drop 8 b = take_all 8 (drop 8 b) (omega (arith, long, length-drop 8 b)) in
    ap (λ (f : List ℕ). f ++ to_le_bytes w64 (halves_of name).1) (half_back 0 b whole.1 (omega (arith, long)))
    ∙ ap (λ (f : List ℕ). field 0 8 b ++ f) (half_back 8 b whole.1 (omega (arith, long)) ∙ rest) ∙ take-append-drop 8 b

-- so two names are equal exactly if their halves are
pub names_decide : (a b : Guid) → IsName a → IsName b → Decides (bytes_eq (bytes_of a) (bytes_of b)) (halves_of a ≡ halves_of b)
names_decide a b p q =
    Decides-like _ (λ e. ap halves_in e)
    (λ e. sym (halves_back a p) ∙ ap (λ (h : Halves). to_le_bytes w64 h.0 ++ to_le_bytes w64 h.1) e ∙ halves_back b q) (bytes_eq-Decides _ _)

-- ---- names with their numbers

pub numbered_length : (k : ℕ) (names : List Guid) → length (numbered k names) ≡ length names
numbered_length k [] = refl
numbered_length k (m ∷ names) = ap suc (numbered_length (k + 1) names)

numbered_from : (k : ℕ) (names : List Guid) (i : ℕ) (g : Guid) (e : Entry) → i < length names
    → get_or (numbered k names) i e ≡ (halves_of (get_or names i g), k + i)
numbered_from k [] i g e l = absurd (omega (arith, l))
numbered_from k (m ∷ names) zero g e l = grind arith
numbered_from k (m ∷ names) (suc i) g e l = grind (arith, numbered_from (k + 1) names i g e (omega (arith, l)))

pub numbered_at : (names : List Guid) (i : ℕ) (g : Guid) (e : Entry) → i < length names
    → get_or (numbered 0 names) i e ≡ (halves_of (get_or names i g), i)
numbered_at names i g e l = grind (arith, numbered_from 0 names i g e l)
