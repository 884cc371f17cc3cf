-- A test decides whether all bytes of a list are one byte, as erased bytes are. The steps:
-- 1. The property is kept if lists are joined or cut (`all_append`, `all_front`, `all_behind`). A loop compares the
--    bytes one by one (`one_more`, `one_less`, `looked_at`).
-- 2. The test `all_are` decides it (`all_are-true`, `all-all_are`, `same_test`), also piece by piece (`all_pieces`,
--    `piece_differs`).
use Rattle.std.proofs.Common.{◌≡◌, ℕ, ◌+◌, ◌%◌, ◌<◌, [], ◌∷◌, ◌++◌, ◌↔◌, ◌==◌, zero, suc, List, length, take, drop, get_or, bit_or, refl, sym, ap}
use Rattle.std.proofs.Common.{◌∙◌, subst, arith, take-append-drop, Bool, true, false, replicate, eqb-true, eq-eqb}
use Rattle.std.proofs.lemmas.Grind.{common_steps}
use Rattle.std.specs.Int.RustNames.{bit_xor}
use Rattle.std.proofs.lemmas.Nat.{le_or_l, le_or_r}
use Rattle.std.proofs.lemmas.Nat.Bits.{same_from_bits, bit_at_xor, bit_at-zero, bit_at-lt}
use Rattle.std.specs.Int.{bit_at}
use Rattle.std.specs.List.{list_all}
use Rattle.fv_base.specs.Words.{AllAre, all_are}
use Rattle.fv_base.proofs.CheckLemmas.{and_split, and_join}

pub all_append : (e : ℕ) (x y : List ℕ) → AllAre e x → AllAre e y → AllAre e (x ++ y)
all_append e [] y h k = k
all_append e (a ∷ x) y h k = (h.0, all_append e x y h.1 k)

pub all_front : (e : ℕ) (x y : List ℕ) → AllAre e (x ++ y) → AllAre e x
all_front e [] y h = tt
all_front e (a ∷ x) y h = (h.0, all_front e x y h.1)

pub all_behind : (e : ℕ) (x y : List ℕ) → AllAre e (x ++ y) → AllAre e y
all_behind e [] y h = h
all_behind e (a ∷ x) y h = all_behind e x y h.1

pub one_more : (e : ℕ) (x : List ℕ) (i : ℕ) → i < length x → AllAre e (take i x) → get_or x i 0 ≡ e → AllAre e (take (suc i) x)
one_more e [] i l h k = absurd (omega arith)
one_more e (a ∷ x) zero l h k = (k, tt)
one_more e (a ∷ x) (suc i) l h k = (h.0, one_more e x i (omega arith) h.1 k)

pub one_less : (e : ℕ) (x : List ℕ) (i : ℕ) → i < length x → AllAre e (take (suc i) x) → AllAre e (take i x) × (get_or x i 0 ≡ e)
one_less e [] i l h = absurd (omega arith)
one_less e (a ∷ x) zero l h = (tt, h.0)
one_less e (a ∷ x) (suc i) l h = let r = one_less e x i (omega arith) h.1 in ((h.0, r.0), r.1)

or_none : (a b : ℕ) → bit_or a b ≡ 0 → (a ≡ 0) × (b ≡ 0)
or_none a b h = (omega (arith, le_or_l a b, h), omega (arith, le_or_r a b, h))

xor_none : (a b : ℕ) → bit_xor a b ≡ 0 → a ≡ b
xor_none a b h = same_from_bits a b (λ i.
    same_bit (bit_at a i) (bit_at b i) (bit_at-lt a i) (bit_at-lt b i) (sym (bit_at_xor a b i) ∙ ap (λ n. bit_at n i) h ∙ bit_at-zero i))
  where
    same_bit : (x y : ℕ) → x < 2 → y < 2 → (x + y) % 2 ≡ 0 → x ≡ y
    same_bit x y l m e = omega arith

xor_same : (a : ℕ) → bit_xor a a ≡ 0
xor_same a = grind (arith, common_steps, bit_at-zero)

-- after one more byte is compared, `seen` is still 0 exactly if all bytes up to here are `e`
pub looked_at : (e seen : ℕ) (x : List ℕ) (i : ℕ) → i < length x → ((seen ≡ 0) ↔ AllAre e (take i x))
    → ((bit_or seen (bit_xor (get_or x i 0) e) ≡ 0) ↔ AllAre e (take (i + 1) x))
looked_at e seen x i l h = (to, from)
  where
    next : suc i ≡ i + 1
    next = omega arith

    to : bit_or seen (bit_xor (get_or x i 0) e) ≡ 0 → AllAre e (take (i + 1) x)
    to z = let p = or_none seen (bit_xor (get_or x i 0) e) z in
        subst (λ k. AllAre e (take k x)) next (one_more e x i l (h.0 p.0) (xor_none (get_or x i 0) e p.1))

    from : AllAre e (take (i + 1) x) → bit_or seen (bit_xor (get_or x i 0) e) ≡ 0
    from all = let p = one_less e x i l (subst (λ k. AllAre e (take k x)) (sym next) all) in rw (h.1 p.0, p.1, xor_same e) refl

-- the test `all_are` decides whether all bytes are `byte`
pub all_are-true : (byte : ℕ) (xs : List ℕ) → all_are byte xs ≡ true → AllAre byte xs
unfolding all_are
all_are-true byte [] h = tt
all_are-true byte (x ∷ xs) h =
    let both = and_split (x == byte) (list_all (λ y. y == byte) xs) h in
    (eqb-true x byte both.0, all_are-true byte xs both.1)

pub all-all_are : (byte : ℕ) (xs : List ℕ) → AllAre byte xs → all_are byte xs ≡ true
unfolding all_are
all-all_are byte [] h = refl
all-all_are byte (x ∷ xs) h = and_join (x == byte) (list_all (λ y. y == byte) xs) (eq-eqb x byte h.0) (all-all_are byte xs h.1)

-- a test that decides the same thing is equal to `all_are`
pub same_test : (t : Bool) (byte : ℕ) (xs : List ℕ) → ((t ≡ true) ↔ AllAre byte xs) → t ≡ all_are byte xs
same_test t byte xs says = grind (arith, common_steps, all-all_are, all_are-true)

pub all-of_replicate : (byte n : ℕ) → AllAre byte (replicate n byte)
all-of_replicate byte zero = tt
all-of_replicate byte (suc n) = (refl, all-of_replicate byte n)

-- if a piece is all `byte`, the bytes after it decide whether the whole is
pub all_pieces : (byte : ℕ) (whole piece behind rest : List ℕ) → rest ≡ piece ++ behind → (AllAre byte rest ↔ AllAre byte whole)
    → AllAre byte piece → (AllAre byte behind ↔ AllAre byte whole)
all_pieces byte whole piece behind rest is says held = grind (arith, common_steps, all_append, all_behind)

-- if a piece is not all `byte`, the whole is not
pub piece_differs : (byte : ℕ) (whole piece behind rest : List ℕ) (t : Bool) → rest ≡ piece ++ behind
    → (AllAre byte rest ↔ AllAre byte whole) → ((t ≡ true) ↔ AllAre byte piece) → t ≡ false
    → ((false ≡ true) ↔ AllAre byte whole)
piece_differs byte whole piece behind rest t is says test off = grind (arith, common_steps, all_front)

pub split_is : (n : ℕ) (rest piece behind : List ℕ) → piece ≡ take n rest → behind ≡ drop n rest → rest ≡ piece ++ behind
split_is n rest piece behind front back = sym (rw (front, back) (take-append-drop n rest))
