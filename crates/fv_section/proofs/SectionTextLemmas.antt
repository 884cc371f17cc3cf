-- A test decides whether bytes are a text followed by its zero unit.
use Rattle.std.proofs.Common.{◌≡◌, ◌≢◌, ◌≤◌, ℕ, ◌-◌, ◌%◌, [], ◌∷◌, ◌++◌, ◌==◌, List, length, take, drop, refl, sym, ap, ◌∙◌, subst, arith, true}
use Rattle.std.proofs.Common.{false, length-append, length-drop, not, eqb-true, eq-eqb, leb-true, le-leb, take-append-drop, take_at, drop_at}
use Rattle.fv_base.proofs.Laws.{length-take-le, common_steps, AllByRecursion, words_of, le, and_join, and_split, not_equal}
use Rattle.fv_section.specs.Words.{IsText, IsVersion}
use Rattle.fv_section.specs.inner.FrameVerdicts.{none_zero, is_text}

none_zero-all : (units : List ℕ) → none_zero units ≡ true → AllByRecursion (λ unit. unit ≢ 0) units
none_zero-all [] h = tt
none_zero-all (u ∷ us) h =
    let both = and_split (not (u == 0)) (none_zero us) h in
    (λ e. never u e both.0, none_zero-all us both.1)
  where
    never : (u : ℕ) → u ≡ 0 → not (u == 0) ≡ true → ⊥
    never u e t = let s : not (0 == 0) ≡ true = subst (λ (k : ℕ). not (k == 0) ≡ true) e t in cc

all-none_zero : (units : List ℕ) → AllByRecursion (λ unit. unit ≢ 0) units → none_zero units ≡ true
all-none_zero [] h = refl
all-none_zero (u ∷ us) h = rw (not_equal u 0 h.0) (all-none_zero us h.1)

zero_unit : (u : List ℕ) → length u ≡ 2 → le u ≡ 0 → u ≡ 0 ∷ 0 ∷ []
zero_unit [] l e = absurd (omega (arith, l))
zero_unit (x ∷ []) l e = absurd (omega (arith, l))
zero_unit (x ∷ y ∷ []) l e =
    let a : x ≡ 0 = omega (arith, e) in
    let b : y ≡ 0 = omega (arith, e) in
    rw (a, b) refl
zero_unit (x ∷ y ∷ z ∷ u) l e = absurd (omega (arith, l))

-- if the test holds, the bytes without the last two are a text
pub text_found : (b : List ℕ) → is_text b ≡ true → IsText b (take (length b - 2) b)
text_found b h =
    let all = and_split _ _ h in
    let front = and_split _ _ all.0 in
    let low = and_split _ _ front.0 in
    let two : 2 ≤ length b = leb-true _ _ low.0 in
    let n : ℕ = length b - 2 in
    let last : length (drop n b) ≡ 2 = omega (arith, length-drop n b, two) in
    record {
      joined = sym (take-append-drop n b) ∙ ap (λ (u : List ℕ). take n b ++ u) (zero_unit (drop n b) last (eqb-true _ _ front.1));
      whole_units = even (length b) (length (take n b)) two (length-take-le n b (omega (arith, two))) (eqb-true _ _ low.1);
      none_zero = none_zero-all (words_of (take n b)) all.1;
    }
  where
    even : (m k : ℕ) → 2 ≤ m → k ≡ m - 2 → m % 2 ≡ 0 → k % 2 ≡ 0
    even m k h e z = omega arith

-- if bytes are a text and its zero unit, the test holds
text_holds : (b text : List ℕ) → IsText b text → is_text b ≡ true
text_holds b text is = grind (arith, common_steps, length-append, take_at, drop_at, and_join, le-leb, eq-eqb, none_zero, all-none_zero)

pub text_none : (b text : List ℕ) → is_text b ≡ false → IsText b text → ⊥
text_none b text h is = grind (arith, common_steps, text_holds)

-- if the bytes after the first two are not a text and its zero unit, the bytes are not the body of a version section
pub version_none : (b : List ℕ) (build : ℕ) (text : List ℕ) → ((t : List ℕ) → IsText (drop 2 b) t → ⊥) → IsVersion b build text → ⊥
version_none b build text none is =
    let behind : drop 2 b ≡ is.units = ap (drop 2) is.joined ∙ drop_at is.number is.units 2 is.two in
    none text (subst (λ (u : List ℕ). IsText u text) (sym behind) is.is_text)
