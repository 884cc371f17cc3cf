-- The tolerant reading of a stream of sections agrees with the strict reading. The steps:
-- 1. Where a frame begins, a section of the same type, form and length is read (`same_section`), and where a section
--    is read, a frame begins (`frame_begins`).
-- 2. The next section begins within the bytes, at most at the next multiple of 4 (`next_lies`). It begins there if
--    another section does (`next_there`), and at the end if no more than filler follows (`next_last`).
-- 3. Frames that split a stream are what it is read as (`split_read`), and its sections are clean (`sections_clean`).
--    If the sections are clean, frames split the stream (`clean_split`).
use Rattle.std.proofs.Common.{◌≡◌, ◌≤◌, ◌<◌, ◌⊎◌, ◌+◌, ◌-◌, ◌%◌, ◌==◌, ◌&&◌, ◌||◌, ◌++◌, ℕ, [], ◌∷◌, not, Bool, true, false, if◌then◌else◌}
use Rattle.std.proofs.Common.{List, length, take, drop, refl, sym, ap, ◌∙◌, subst, arith, inl, inr, zero, suc, length-append, length-drop, nat_le, nat_lt}
use Rattle.std.proofs.Common.{eq-eqb, eqb-true, get_or-take, le-leb, leb-true, length-take-le, lt-ltb, ltb-false, ltb-true, take-append-drop}
use Rattle.fv_base.proofs.Laws.{and_join, common_steps, drop-append_seam, drop-drop, drop_all, eqb-false, field-take, le, le_at, nat_tests}
use Rattle.fv_base.specs.declared.fault.FaultKind.TheVariants as faults
use Rattle.fv_section.proofs.Laws.{frame_reads, from_least, length_begun}
use Rattle.fv_section.specs.Words.{BeginsFrame, FrameForm, SplitsFrom, StatesSize, frame_in, frame_len, has_extended_size}
use Rattle.fv_section.specs.Words.{section_header_len}
use Rattle.fv_section.specs.Words.{section_header_len_at, section_size_at, section_size_in, up_to_4}
use Rattle.fv_survey.specs.inner.CleanParts.{CleanSections}
use Rattle.fv_survey.proofs.RuleLaws.{section_lies}
use Rattle.fv_survey.specs.Words.{SameSection, SectionsAs, begins_section, begins_usual, bits_of, may_follow, next_at, next_section, none}
use Rattle.fv_survey.specs.Words.{place_findings, section_end, with_if}

-- ---- one section

-- where a frame begins, the same section is read
pub same_section : (f : FrameForm) (b rest : List ℕ) → BeginsFrame f b rest → SameSection f b
same_section f b rest begun =
    let r = frame_reads f b rest begun in
    record {
      begins = and_join _ _ ((r.checks 0).0) ((r.checks 0).1.0);
      extended = ap (λ (g : FrameForm). g.extended) r.frame_is;
      size = r.size_is;
      kind = ap (λ (g : FrameForm). g.kind) r.frame_is;
      body = ap (λ (g : FrameForm). g.body) r.frame_is;
    }

states_size : (t : Bool) (n : ℕ) (r h : List ℕ) → has_extended_size r ≡ t → le_at 0 3 h ≡ le_at 0 3 r
    → (t ≡ true → le_at 4 4 h ≡ le_at 4 4 r) → n ≡ section_size_in t r → StatesSize t n h
states_size t n r h is short long e = grind (arith, common_steps, eqb-false, eqb-true)

-- where a section is read, its frame begins
pub frame_begins : (at : ℕ) (b : List ℕ) → begins_section b ≡ true → BeginsFrame (frame_in at b) b (drop (section_size_at b) b)
frame_begins at b begins =
    let n : ℕ = section_header_len_at b in
    let lies = section_lies b begins in
    let within : section_size_at b ≤ length b = omega (arith, lies.next, lies.within) in
    let low : 4 ≤ n = lies.header in
    let body : List ℕ = take (section_size_at b - n) (drop n b) in
    let len : length body ≡ section_size_at b - n =
    length-take-le (section_size_at b - n) (drop n b) (omega (arith, length-drop n b, within)) in
    let behind : drop (section_size_at b - n) (drop n b) ≡ drop (section_size_at b) b =
    drop-drop (section_size_at b - n) n b ∙ ap (λ (k : ℕ). drop k b) (omega (arith, lies.size)) in
    let split : drop n b ≡ body ++ drop (section_size_at b) b =
    sym (take-append-drop (section_size_at b - n) (drop n b)) ∙ ap (λ (l : List ℕ). body ++ l) behind in
    record {
      head = take n b;
      is_header = record {
        header_length = length-take-le n b (omega (arith, lies.size, within));
        kind_is = get_or-take n b 3 0 (omega (arith, low));
        states = states_size (has_extended_size b) (n + length body) b (take n b) refl (ap le (field-take 0 3 n b (omega (arith, low))))
            (λ e. ap le (field-take 4 4 n b (eight e))) (omega (arith, len, lies.size));
      };
      text = sym (take-append-drop n b) ∙ ap (λ (l : List ℕ). take n b ++ l) split;
    }
  where
    eight : has_extended_size b ≡ true → 4 + 4 ≤ section_header_len_at b
    eight e = subst (λ (t : Bool). 4 + 4 ≤ section_header_len t) (sym e) (omega arith)

-- ---- where the next section begins

-- after a section of n bytes, the offset m lies within the bytes b, and is at most the next multiple of 4. If it is
-- not the end, it is the end of the section or the next multiple of 4
pub record NextLies (n : ℕ) (b : List ℕ) (m : ℕ) : Type 0 where
  pub least : n ≤ m
  pub within : m ≤ length b
  pub most : m ≤ up_to_4 n
  pub place : m < length b → (m ≡ n) ⊎ (m ≡ up_to_4 n)

pub next_lies : (n : ℕ) (b : List ℕ) → n ≤ length b → NextLies n b (next_section n b)
next_lies n b fits = go (not (may_follow (drop (section_end n b) b)) && begins_usual (drop n b)) where
  end : (t : Bool) → nat_le (up_to_4 n) (length b) ≡ t → NextLies n b (if t then up_to_4 n else length b)
  end true e = record {
    least = omega arith;
    within = leb-true (up_to_4 n) (length b) e;
    most = omega arith;
    place = λ inside. inr refl;
  }
  end false e = record {
    least = fits;
    within = omega arith;
    most = past (nat_le (up_to_4 n) (length b)) refl e;
    place = λ inside. absurd (omega (arith, inside));
  }
    where
      past : (t : Bool) → nat_le (up_to_4 n) (length b) ≡ t → t ≡ false → length b ≤ up_to_4 n
      past t is off = grind (arith, nat_tests, is, off)

  go : (t : Bool) → NextLies n b (if t then n else section_end n b)
  go true = record { least = omega arith; within = fits; most = omega arith; place = λ inside. inl refl }
  go false = end (nat_le (up_to_4 n) (length b)) refl

next_good : (n : ℕ) (b : List ℕ) → may_follow (drop (section_end n b) b) ≡ true → next_section n b ≡ section_end n b
next_good n b follows = rw follows refl

-- if a section begins at the next multiple of 4, it is the next section
next_there : (n : ℕ) (b : List ℕ) → up_to_4 n ≤ length b → begins_section (drop (up_to_4 n) b) ≡ true → next_section n b ≡ up_to_4 n
next_there n b inside begins =
    let end : section_end n b ≡ up_to_4 n = rw (le-leb (up_to_4 n) (length b) inside) refl in
    next_good n b (subst (λ (k : ℕ). may_follow (drop k b) ≡ true) (sym end) (follows (length (drop (up_to_4 n) b) == 0))) ∙ end
  where
    follows : (t : Bool) → (t || begins_section (drop (up_to_4 n) b)) ≡ true
    follows true = refl
    follows false = begins

-- if no more than filler follows, the next section would begin at the end
next_last : (n : ℕ) (b : List ℕ) → length b ≤ up_to_4 n → next_section n b ≡ length b
next_last n b short =
    let none : drop (section_end n b) b ≡ [] = drop_all (section_end n b) b (omega (arith, end)) in
    next_good n b (subst (λ (l : List ℕ). may_follow l ≡ true) (sym none) refl) ∙ end
  where
    go : (t : Bool) → nat_le (up_to_4 n) (length b) ≡ t → (if t then up_to_4 n else length b) ≡ length b
    go true e = omega (arith, short, leb-true (up_to_4 n) (length b) e)
    go false e = refl

    end : section_end n b ≡ length b
    end = go (nat_le (up_to_4 n) (length b)) refl

-- a section has no findings about its place if it begins at a multiple of 4, or at the end; and otherwise it has
pub placed_four : (at n : ℕ) → at % 4 ≡ 0 → place_findings at n ≡ none
placed_four at n four = rw (eq-eqb (at % 4) 0 four) refl

pub place_past : (at n : ℕ) → nat_lt at n ≡ false → place_findings at n ≡ none
place_past at n past = go (not (at % 4 == 0)) (nat_lt at n) past where
  go : (s t : Bool) → t ≡ false → with_if (s && t) faults.SectionSize none ≡ none
  go true false e = refl
  go false false e = refl
  go s true e = cc

pub placed_end : (at n : ℕ) → at ≡ n → place_findings at n ≡ none
placed_end at n end = place_past at n (grind (arith, nat_tests, end))

placed_is : (at n : ℕ) → at < n → place_findings at n ≡ none → at % 4 ≡ 0
placed_is at n inside clean = go (at % 4 == 0) refl (nat_lt at n) (lt-ltb at n inside) clean where
  go : (s : Bool) → (at % 4 == 0) ≡ s → (t : Bool) → t ≡ true → with_if (not s && t) faults.SectionSize none ≡ none → at % 4 ≡ 0
  go true e t in_it clean = eqb-true (at % 4) 0 e
  go false e true in_it clean = let bit : 524288 ≡ 0 = ap bits_of clean in absurd (omega (arith, bit))
  go false e false in_it clean = cc

-- ---- all sections

-- the first section of a stream
first_section : (at : ℕ) (f : FrameForm) (fs : List FrameForm) (tail : ℕ) (b : List ℕ) → SectionsAs at (f ∷ fs) tail b → SameSection f b
first_section at f [] tail b read = read.0
first_section at f (g ∷ fs) tail b read = read.0

-- frames that split a stream are what it is read as
pub split_read : (at : ℕ) (frames : List FrameForm) (tail : ℕ) (b : List ℕ) → at % 4 ≡ 0 → SplitsFrom at frames tail b
    → SectionsAs at frames tail b
split_read at [] tail b multiple split = split
split_read at (f ∷ []) tail b multiple (rest, begun, place, left, fit) =
    let same = same_section f b rest begun in
    let whole : length b ≡ frame_len f + length rest = length_begun f b rest begun in
    let next : next_at b ≡ length b =
    ap (λ (n : ℕ). next_section n b) same.size ∙ next_last (frame_len f) b (omega (arith, whole, left, fit, multiple)) in
    (same, place, next, omega (arith, same.size, whole, left))
split_read at (f ∷ g ∷ fs) tail b multiple (filler, rest, begun, place, fill, more) =
    let same = same_section f b (filler ++ rest) begun in
    let n : ℕ = frame_len f in
    let whole : length b ≡ n + length (filler ++ rest) = length_begun f b (filler ++ rest) begun in
    let all : length b ≡ n + length filler + length rest = omega (arith, whole, length-append filler rest) in
    let some : 4 ≤ length rest = from_least (up_to_4 (at + n)) g fs tail rest more in
    let four : up_to_4 n ≡ n + length filler = omega (arith, fill, multiple) in
    let dropped : drop (up_to_4 n) b ≡ rest =
    ap (λ (k : ℕ). drop k b) four ∙ sym (drop-drop (length filler) n b)
    ∙ ap (drop (length filler)) (sym (frame_reads f b (filler ++ rest) begun).rest_is) ∙ drop-append_seam filler rest in
    let later = split_read (up_to_4 (at + n)) (g ∷ fs) tail rest (omega arith) more in
    let begins : begins_section (drop (up_to_4 n) b) ≡ true =
    ap begins_section dropped ∙ (first_section (up_to_4 (at + n)) g fs tail rest later).begins in
    let next : next_at b ≡ up_to_4 n =
    ap (λ (k : ℕ). next_section k b) same.size ∙ next_there n b (omega (arith, all, four)) begins in
    let there : at + next_at b ≡ up_to_4 (at + n) = omega (arith, next, multiple) in (
      same,
      place,
      next ∙ ap up_to_4 (sym same.size),
      omega (arith, next, all, four, some),
      subst (λ (k : ℕ). SectionsAs k (g ∷ fs) tail (drop (next_at b) b)) (sym there)
          (subst (SectionsAs (up_to_4 (at + n)) (g ∷ fs) tail) (sym (ap (λ (k : ℕ). drop k b) next ∙ dropped)) later),
    )

clean_none : (n : ℕ) → CleanSections n []
clean_none zero = tt
clean_none (suc n) = λ some. absurd (omega (arith, some))

-- the sections of a stream that is read as frames are clean
pub sections_clean : (n at : ℕ) (frames : List FrameForm) (tail : ℕ) (b : List ℕ) → SectionsAs at frames tail b → CleanSections n b
sections_clean zero at frames tail b read = tt
sections_clean (suc n) at [] tail b (empty, _) = λ some. absurd (omega (arith, some, ap length empty))
sections_clean (suc n) at (f ∷ []) tail b (same, place, next, _) = λ some. (
  same.begins,
  placed_end (next_at b) (length b) next,
  subst (CleanSections n) (sym (drop_all (next_at b) b (omega (arith, next)))) (clean_none n),
)
sections_clean (suc n) at (f ∷ g ∷ fs) tail b (same, place, next, inside, more) = λ some. (
  same.begins,
  placed_four (next_at b) (length b) (omega (arith, next)),
  sections_clean n (at + next_at b) (g ∷ fs) tail (drop (next_at b) b) more,
)

-- bytes of a stream that are split into frames
abbrev Split : ℕ → List ℕ → Type 0
Split at b = (frames : List FrameForm) × (tail : ℕ) × SplitsFrom at frames tail b

-- the last section of a stream
last_split : (at : ℕ) (b : List ℕ) → at % 4 ≡ 0 → begins_section b ≡ true → length b ≤ next_at b → Split at b
last_split at b multiple begins end =
    let begun = frame_begins at b begins in
    let lies = section_lies b begins in
    let next = next_lies (section_size_at b) b (omega (arith, lies.next, lies.within)) in
    let whole = length_begun (frame_in at b) b (drop (section_size_at b) b) begun in (
      frame_in at b ∷ [],
      length (drop (section_size_at b) b),
      (
        drop (section_size_at b) b,
        begun,
        refl,
        refl,
        omega (arith, whole, length-drop (section_size_at b) b, lies.next, lies.within, next.most, end, multiple),
      ),
    )

-- a section before others
more_split : (at : ℕ) (b : List ℕ) → at % 4 ≡ 0 → begins_section b ≡ true → next_at b < length b → next_at b % 4 ≡ 0
    → Split (at + next_at b) (drop (next_at b) b) → Split at b
more_split at b multiple begins inside four ([], tail, empty) =
    absurd (omega (arith, ap length empty.0, length-drop (next_at b) b, inside))
more_split at b multiple begins inside four (g ∷ gs, tail, more) =
    let n : ℕ = section_size_at b in
    let lies = section_lies b begins in
    let next = next_lies n b (omega (arith, lies.next, lies.within)) in
    let begun = frame_begins at b begins in
    let whole = length_begun (frame_in at b) b (drop n b) begun in
    let size : frame_len (frame_in at b) ≡ n = omega (arith, whole, length-drop n b, lies.next, lies.within) in
    let filler : List ℕ = take (next_at b - n) (drop n b) in
    let behind : drop (next_at b - n) (drop n b) ≡ drop (next_at b) b =
    drop-drop (next_at b - n) n b ∙ ap (λ (k : ℕ). drop k b) (omega (arith, next.least)) in
    let cut : drop n b ≡ filler ++ drop (next_at b) b =
    sym (take-append-drop (next_at b - n) (drop n b)) ∙ ap (λ (l : List ℕ). filler ++ l) behind in
    let filled : length filler ≡ next_at b - n =
    length-take-le (next_at b - n) (drop n b) (omega (arith, length-drop n b, next.within)) in
    let place : next_at b ≡ up_to_4 n = elim (next.place inside) [
      | inl direct ↦ omega (arith, direct, four)
      | inr there ↦ there
    ] in
    let there : at + next_at b ≡ up_to_4 (at + frame_len (frame_in at b)) = omega (arith, place, size, multiple) in (
      frame_in at b ∷ g ∷ gs,
      tail,
      (
        filler,
        drop (next_at b) b,
        subst (BeginsFrame (frame_in at b) b) cut begun,
        refl,
        omega (arith, there, filled, size, next.least),
        subst (λ (k : ℕ). SplitsFrom k (g ∷ gs) tail (drop (next_at b) b)) there more,
      ),
    )

-- if the sections of a stream are clean, frames split it
pub clean_split : (n at : ℕ) (b : List ℕ) → length b ≤ n → at % 4 ≡ 0 → CleanSections n b → Split at b
clean_split n at [] few multiple clean = ([], 0, (refl, refl))
clean_split zero at (a ∷ b) few multiple clean = absurd (omega (arith, few))
clean_split (suc n) at (a ∷ b) few multiple clean =
    by_end (clean (omega arith)) (nat_lt (next_at (a ∷ b)) (length (a ∷ b))) refl
    (λ l m. clean_split n (at + next_at (a ∷ b)) (drop (next_at (a ∷ b)) (a ∷ b)) l m)
  where
    by_end : (begins_section (a ∷ b) ≡ true) × (place_findings (next_at (a ∷ b)) (length (a ∷ b)) ≡ none)
        × CleanSections n (drop (next_at (a ∷ b)) (a ∷ b))
        → (t : Bool) → nat_lt (next_at (a ∷ b)) (length (a ∷ b)) ≡ t
        → (length (drop (next_at (a ∷ b)) (a ∷ b)) ≤ n → (at + next_at (a ∷ b)) % 4 ≡ 0
        → CleanSections n (drop (next_at (a ∷ b)) (a ∷ b)) → Split (at + next_at (a ∷ b)) (drop (next_at (a ∷ b)) (a ∷ b)))
        → Split at (a ∷ b)
    by_end (begins, placed, rest) false e on = last_split at (a ∷ b) multiple begins (ltb-false (next_at (a ∷ b)) (length (a ∷ b)) e)
    by_end (begins, placed, rest) true e on =
        let inside : next_at (a ∷ b) < length (a ∷ b) = ltb-true (next_at (a ∷ b)) (length (a ∷ b)) e in
        let lies = section_lies (a ∷ b) begins in
        let four : next_at (a ∷ b) % 4 ≡ 0 = placed_is (next_at (a ∷ b)) (length (a ∷ b)) inside placed in
        more_split at (a ∷ b) multiple begins inside four
        (on (omega (arith, length-drop (next_at (a ∷ b)) (a ∷ b), lies.header, lies.size, lies.next, few))
        (omega (arith, multiple, four)) rest)
