-- Lemmas about the pieces of a body: what the functions that read them compute is what the rules say.
use Rattle.std.proofs.Common.{◌≡◌, ◌≤◌, ◌<◌, ◌+◌, ◌*◌, ◌/◌, ◌-◌, ◌%◌, ◌==◌, ℕ, [], ◌∷◌, if◌then◌else◌, min, Bool, true, false, not}
use Rattle.fv_base.proofs.Laws.{List, length, take, drop, refl, sym, ◌∙◌, arith, common_steps, take_all, zero, suc, slice_index, drop-drop}
use Rattle.fv_base.proofs.Laws.{all_are, not_equal}
use Rattle.fv_base.specs.declared.fault.FaultKind.{FaultKind}
use Rattle.fv_base.specs.declared.flash.Polarity.TheVariants.{Ones}
use Rattle.fv_file.specs.Words.{bits_of}
use Rattle.fv_survey.specs.Words.{bytes_before, resumes, with_if, with_kind}
use Rattle.fv_survey.specs.declared.findings.Findings.{Findings}
use Rattle.fv_survey.specs.declared.pieces.Layout.{Layout}

-- the first bytes, up to all or up to n of them, are the first n bytes or fewer
pub take_least : (n : ℕ) (r : List ℕ) → take (min (length r) n) r ≡ take n r
take_least n r = grind (arith, common_steps, take_all)

-- if the first byte does not have the value e, not all of the first bytes have it
pub other_first : (e n : ℕ) (r : List ℕ) → 0 < length r → 0 < n → (slice_index r 0 == e) ≡ false → all_are e (take n r) ≡ false
unfolding all_are
other_first e n [] some more other = absurd (omega arith)
other_first e zero (x ∷ r) some more other = absurd (omega arith)
other_first e (suc n) (x ∷ r) some more other = rw other refl

pub first_differs : (e other n : ℕ) (r : List ℕ) → other ≡ e → 0 < length r → 0 < n → (slice_index r 0 ≡ other → ⊥)
    → (slice_index r 0 == other) ≡ all_are e (take n r)
first_differs e other n r is some more differs =
    let test : (slice_index r 0 == other) ≡ false = not_equal (slice_index r 0) other differs in
    test ∙ sym (other_first e n r some more (rw (← is) test))

-- the bits of a State byte without the bits 0x40 and 0x80
pub counted_ones : (b : ℕ) → b < 256 → bits_of Ones (255 - (255 - b) % 64) ≡ bits_of Ones b % 64
counted_ones b small = omega arith

-- ---- lost bytes

-- the words from the place `at` on, up to the first word at which a piece may begin, follow the bytes so far
pub record Searched (layout : Layout) (r : List ℕ) (total at : ℕ) : Type 0 where
  pub words : ℕ
  pub whole : at + 8 * words ≡ length r
  pub is : total ≡ at + bytes_before layout words (drop at r)

-- a search begins after the first word
pub search_begins : (layout : Layout) (r : List ℕ) → 0 < length r → length r % 8 ≡ 0
    → Searched layout r (8 + bytes_before layout (length r / 8 - 1) (drop 8 r)) 8
search_begins layout r some in_eights = record { words = length r / 8 - 1; whole = omega arith; is = refl }

-- if no piece may begin at the place, the search goes on at the next word
pub search_goes_on : (layout : Layout) (r : List ℕ) (total at : ℕ) → Searched layout r total at → at < length r
    → resumes layout (drop at r) ≡ false → Searched layout r total (at + 8)
search_goes_on layout r total at k more none = go k.words k.whole k.is where
  go : (n : ℕ) → at + 8 * n ≡ length r → total ≡ at + bytes_before layout n (drop at r) → Searched layout r total (at + 8)
  go zero whole is = absurd (omega (arith, whole, more))
  go (suc n) whole is = record {
    words = n;
    whole = omega (arith, whole);
    is = is ∙ rw (none, drop-drop) (omega arith);
  }

-- the search ends at the end, or where a piece may begin
pub search_ends : (layout : Layout) (r : List ℕ) (total at : ℕ) → Searched layout r total at → length r ≤ at → at ≡ total
search_ends layout r total at k end = go k.words k.whole k.is where
  go : (n : ℕ) → at + 8 * n ≡ length r → total ≡ at + bytes_before layout n (drop at r) → at ≡ total
  go zero whole is = omega (arith, is)
  go (suc n) whole is = absurd (omega (arith, whole, end))

pub search_finds : (layout : Layout) (r : List ℕ) (total at : ℕ) → Searched layout r total at → resumes layout (drop at r) ≡ true
    → at ≡ total
search_finds layout r total at k found = go k.words k.whole k.is where
  go : (n : ℕ) → at + 8 * n ≡ length r → total ≡ at + bytes_before layout n (drop at r) → at ≡ total
  go zero whole is = omega (arith, is)
  go (suc n) whole is = sym (is ∙ rw found (omega arith))

-- ---- findings

-- a set with one more kind if a rule is broken
pub one_rule : (result set : Findings) (holds : Bool) (kind : FaultKind) → result ≡ with_if (not holds) kind set
    → result ≡ (if holds then set else with_kind kind set)
one_rule result set true kind e = e
one_rule result set false kind e = e
