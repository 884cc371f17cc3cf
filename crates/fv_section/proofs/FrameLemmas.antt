-- The checks of a frame hold exactly if a frame begins the bytes. The steps:
-- 1. If the checks hold, the frame that is read begins the bytes (`begins_in`).
-- 2. If a frame begins the bytes, the checks hold, and this frame is read (`frame_reads`). So at most one frame begins
--    the bytes (`one_frame`).
-- 3. The verdict is the frame (`verdict_stands`, `stands_verdict`), or the first fault of the checks (`verdict_first`).
-- 4. If a check does not hold, no frame begins the bytes (`none_stands`).
use Rattle.std.proofs.Common.{◌≡◌, ◌≤◌, ◌<◌, ℕ, ◌+◌, ◌-◌, ◌++◌, ◌==◌, List, length, take, drop, refl, sym, ap, ◌∙◌, subst, arith, Bool, true}
use Rattle.std.proofs.Common.{length-append, length-drop, append_assoc, drop-drop, slice_index, Result, Ok, Err, leb-true, le-leb, eqb-true, eq-eqb}
use Rattle.std.proofs.Common.{take-append-drop, take_at, drop_at, length-take-le, get_or-take}
use Rattle.fv_base.proofs.Laws.{common_steps, eqb-false, get_or-append, AllHold, IsFirstFault, Which, Fails, le, le_at, all_hold, and_join, and_split}
use Rattle.fv_base.proofs.Laws.{field-append_front, field-take, first_is, none_faulty, not_equal, none_fails, verdict_err, verdict_none, verdict_ok}
use Rattle.std.proofs.lemmas.List.{take_rest}
use Rattle.fv_base.specs.declared.fault.Fault.{Fault}
use Rattle.fv_base.specs.inner.Verdicts.{first_fault}
use Rattle.fv_section.specs.Words.{has_extended_size, section_header_len_at, section_size_in, section_size_at, frame_checks, frame_in, HasFrameAt}
use Rattle.fv_section.specs.Words.{FrameForm, BeginsFrame, StatesSize, section_header_len, frame_len}
use Rattle.fv_section.specs.inner.FrameVerdicts.{frame_verdict}

head_least : (extended : Bool) → 4 ≤ section_header_len extended
head_least extended = grind (arith, common_steps)

pub size_least : (f : FrameForm) → 4 ≤ frame_len f
size_least f = omega (arith, head_least f.extended)

-- ---- from the checks to the frame

says_size : (t : Bool) (n : ℕ) (r h : List ℕ) → has_extended_size r ≡ t → le_at 0 3 h ≡ le_at 0 3 r → (t ≡ true → le_at 4 4 h ≡ le_at 4 4 r)
    → n ≡ section_size_in t r → StatesSize t n h
says_size t n r h is short long e = grind (arith, common_steps, eqb-false, eqb-true)

begins_in : (at : ℕ) (r : List ℕ) → AllHold (frame_checks at r) → BeginsFrame (frame_in at r) r (drop (section_size_at r) r)
begins_in at r all =
    let n : ℕ = section_header_len_at r in
    let parts = and_split _ _ all.1.0 in
    let parts' = and_split _ _ parts.1 in
    let whole : n ≤ length r = leb-true _ _ parts.0 in
    let least : n ≤ section_size_at r = leb-true _ _ parts'.0 in
    let within : section_size_at r ≤ length r = leb-true _ _ parts'.1 in
    let low : 4 ≤ n = head_least (has_extended_size r) in
    let body : List ℕ = take (section_size_at r - n) (drop n r) in
    let len : length body ≡ section_size_at r - n =
    length-take-le (section_size_at r - n) (drop n r) (omega (arith, length-drop n r, within)) in
    let behind : drop (section_size_at r - n) (drop n r) ≡ drop (section_size_at r) r =
    drop-drop (section_size_at r - n) n r ∙ ap (λ (k : ℕ). drop k r) (omega (arith, least)) in
    let split : drop n r ≡ body ++ drop (section_size_at r) r =
    sym (take-append-drop (section_size_at r - n) (drop n r)) ∙ ap (λ (l : List ℕ). body ++ l) behind in
    record {
      head = take n r;
      is_header = record {
        header_length = length-take-le n r whole;
        kind_is = get_or-take n r 3 0 (omega (arith, low));
        states = says_size (has_extended_size r) (n + length body) r (take n r) refl (ap le (field-take 0 3 n r (omega (arith, low))))
            (λ e. ap le (field-take 4 4 n r (eight e))) (omega (arith, len, least));
      };
      text = sym (take-append-drop n r) ∙ ap (λ (l : List ℕ). take n r ++ l) split;
    }
  where
    eight : has_extended_size r ≡ true → 4 + 4 ≤ section_header_len_at r
    eight e = subst (λ (t : Bool). 4 + 4 ≤ section_header_len t) (sym e) (omega arith)

-- ---- from the frame to the checks

-- bytes that begin with a frame are read as this frame
pub record ReadsFrame (f : FrameForm) (r rest : List ℕ) : Type 0 where
  pub checks : (at : ℕ) → AllHold (frame_checks at r)
  pub frame_is : frame_in f.offset r ≡ f
  pub size_is : section_size_at r ≡ frame_len f
  pub rest_is : rest ≡ drop (frame_len f) r
  pub whole : length r ≡ frame_len f + length rest

shown : (extended : Bool) (n : ℕ) (h : List ℕ) → StatesSize extended n h → (le_at 0 3 h == 0xffffff) ≡ extended
shown extended n h states = grind (arith, common_steps, not_equal, eq-eqb)

sized : (extended : Bool) (n : ℕ) (h y : List ℕ) → length h ≡ section_header_len extended → StatesSize extended n h
    → section_size_in extended (h ++ y) ≡ n
sized extended n h y l states = grind (arith, common_steps, field-append_front)

abbrev frame_by : ℕ → ℕ → Bool → List ℕ → FrameForm
frame_by at kind extended body = record { offset = at; kind = kind; extended = extended; body = body }

same_form : (a : ℕ) (k k' : ℕ) (x x' : Bool) (c c' : List ℕ) → k ≡ k' → x ≡ x' → c ≡ c' → frame_by a k x c ≡ frame_by a k' x' c'
same_form a k k' x x' c c' p q s = rw (p, q, s) refl

pub frame_reads : (f : FrameForm) (r rest : List ℕ) → BeginsFrame f r rest → ReadsFrame f r rest
frame_reads f r rest b =
    let h : List ℕ = b.head in
    let y : List ℕ = f.body ++ rest in
    let is = b.is_header in
    let low : 4 ≤ length h = subst (λ (k : ℕ). 4 ≤ k) (sym is.header_length) (head_least f.extended) in
    let first : le_at 0 3 r ≡ le_at 0 3 h =
    ap (λ (l : List ℕ). le_at 0 3 l) b.text ∙ ap le (field-append_front 0 3 h y (omega (arith, low))) in
    let form : has_extended_size r ≡ f.extended = ap (λ (k : ℕ). k == 0xffffff) first ∙ shown f.extended (frame_len f) h is.states in
    let n : section_header_len_at r ≡ length h = ap section_header_len form ∙ sym is.header_length in
    let all : section_size_at r ≡ frame_len f = ap (λ (t : Bool). section_size_in t r) form ∙ ap (section_size_in f.extended) b.text
    ∙ sized f.extended (frame_len f) h y is.header_length is.states in
    let kind : slice_index r 3 ≡ f.kind =
    ap (λ (l : List ℕ). slice_index l 3) b.text ∙ get_or-append h y 0 3 (omega (arith, low)) ∙ is.kind_is in
    let long : length r ≡ frame_len f + length rest =
    omega (arith, ap length b.text, length-append h y, length-append f.body rest, is.header_length) in
    let body_len : section_size_at r - section_header_len_at r ≡ length f.body = omega (arith, all, n, is.header_length) in
    let behind : drop (section_header_len_at r) r ≡ y =
    ap (drop (section_header_len_at r)) b.text ∙ drop_at h y (section_header_len_at r) (sym n) in
    let body : take (section_size_at r - section_header_len_at r) (drop (section_header_len_at r) r) ≡ f.body =
    ap (take (section_size_at r - section_header_len_at r)) behind
    ∙ take_at f.body rest (section_size_at r - section_header_len_at r) (sym body_len) in
    let flat : r ≡ (h ++ f.body) ++ rest = b.text ∙ sym (append_assoc h f.body rest) in
    let front : length (h ++ f.body) ≡ frame_len f = omega (arith, length-append h f.body, is.header_length) in
    record {
      checks = λ at. (
        le-leb 4 (length r) (omega (arith, long, size_least f)),
        (
          and_join _ _ (le-leb (section_header_len_at r) (length r) (omega (arith, n, is.header_length, long)))
              (and_join _ _ (le-leb (section_header_len_at r) (section_size_at r) (omega (arith, n, is.header_length, all)))
              (le-leb (section_size_at r) (length r) (omega (arith, all, long)))),
          tt,
        ),
      );
      frame_is = same_form f.offset (slice_index r 3) f.kind (has_extended_size r) f.extended _ f.body kind form body;
      size_is = all;
      rest_is = sym (ap (drop (frame_len f)) flat ∙ drop_at (h ++ f.body) rest (frame_len f) front);
      whole = long;
    }

-- bytes that begin with a frame have its length, and the length of the rest
pub length_begun : (f : FrameForm) (b rest : List ℕ) → BeginsFrame f b rest → length b ≡ frame_len f + length rest
length_begun f b rest h = (frame_reads f b rest h).whole

-- at most one frame begins a list of bytes, at a given offset
pub one_frame : (f g : FrameForm) (b r s : List ℕ) → f.offset ≡ g.offset → BeginsFrame f b r → BeginsFrame g b s → (f ≡ g) × (r ≡ s)
one_frame f g b r s o hf hg =
    let rf = frame_reads f b r hf in
    let rg = frame_reads g b s hg in
    let same : f ≡ g = sym rf.frame_is ∙ ap (λ (k : ℕ). frame_in k b) o ∙ rg.frame_is in
    (same, rf.rest_is ∙ ap (λ (k : FrameForm). drop (frame_len k) b) same ∙ sym rg.rest_is)

-- a frame that begins bytes also begins these bytes with more bytes after them
pub begins_more : (f : FrameForm) (b r y : List ℕ) → BeginsFrame f b r → BeginsFrame f (b ++ y) (r ++ y)
begins_more f b r y h = grind (arith, common_steps, append_assoc)

-- ---- the verdict

pub verdict_stands : (at : ℕ) (b : List ℕ) (f : FrameForm) → at < length b → frame_verdict at (drop at b) ≡ Ok f → HasFrameAt f at b
verdict_stands at b f inside is =
    let r : List ℕ = drop at b in
    let v = verdict_ok (first_fault (frame_checks at r)) (frame_in at r) f is in
    subst (λ (g : FrameForm). HasFrameAt g at b) v.1 (record {
      offset = refl;
      inside = inside;
      rest = drop (section_size_at r) r;
      begins = begins_in at r (all_hold (frame_checks at r) v.0);
    })

pub stands_verdict : (at : ℕ) (b : List ℕ) (g : FrameForm) → HasFrameAt g at b → frame_verdict at (drop at b) ≡ Ok g
stands_verdict at b g stands =
    let reads = frame_reads g (drop at b) stands.rest stands.begins in
    verdict_none (first_fault (frame_checks at (drop at b))) (frame_in at (drop at b))
    (none_faulty (frame_checks at (drop at b)) (reads.checks at))
    ∙ ap Ok (ap (λ (k : ℕ). frame_in k (drop at b)) (sym stands.offset) ∙ reads.frame_is)

pub verdict_first : (at : ℕ) (r : List ℕ) (e : Fault) → frame_verdict at r ≡ Err e → IsFirstFault (frame_checks at r) e
verdict_first at r e is = first_is (frame_checks at r) e (verdict_err (first_fault (frame_checks at r)) (frame_in at r) e is)

-- the verdict on the `length b - at` bytes from the offset `at` on is the verdict on all bytes from there on
pub verdict_rest : (at : ℕ) (b : List ℕ) → frame_verdict at (take (length b - at) (drop at b)) ≡ frame_verdict at (drop at b)
verdict_rest at b = ap (frame_verdict at) (take_rest b at)

-- if a check does not hold, no frame begins at the place
pub none_stands : (which : Which) (at : ℕ) (b : List ℕ) (e : Fault) (g : FrameForm) → Fails which (frame_checks at (drop at b)) e
    → HasFrameAt g at b → ⊥
none_stands which at b e g bad stands =
    let reads = frame_reads g (drop at b) stands.rest stands.begins in
    none_fails which (frame_checks at (drop at b)) e bad (reads.checks at)

pub other_verdict : (x : Result FrameForm Fault) (f g : FrameForm) → x ≡ Ok f → x ≡ Ok g → g ≡ f
other_verdict x f g a b = cc
