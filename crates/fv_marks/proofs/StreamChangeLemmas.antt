-- A stream after the bodies of its frames changed: its frames have the same headers and places, and each body became
-- another one (`stream_became`).
use Rattle.std.proofs.Common.{◌≡◌, ◌≤◌, ℕ, ◌+◌, [], ◌∷◌, ◌++◌}
use Rattle.fv_base.proofs.Laws.{List, length, take, drop, refl, sym, ap, ◌∙◌, subst, arith, field, AllByRecursion, append_assoc, drop-drop, drop_at}
use Rattle.fv_base.proofs.Laws.{length-append, length-drop, length-take-le, take-append-drop, take-take_le, take_at}
use Rattle.fv_section.specs.Words.{FrameForm, HasFrameAt, IsSectionHeader, SplitsFrom, frame_len, section_header_len, up_to_4}
use Rattle.fv_section.proofs.Laws.{begins_of, length_begun, others_split, size_least, stands_within}
use Rattle.fv_tree.specs.Words.{body_place, shape_of}
use Rattle.fv_tree.specs.declared.shape.Shape.{Shape}
use Rattle.fv_marks.specs.Words.{FramesLose, Loses}
use Rattle.fv_marks.proofs.FrameLemmas.{body_there, first_is, none_there}
use Rattle.fv_marks.proofs.SumLemmas.{SumsStay, frames_sum}

-- the frame f with another body
abbrev pub with_body : FrameForm → List ℕ → FrameForm
with_body f x = record { offset = f.offset; kind = f.kind; extended = f.extended; body = x }

-- ---- a frame whose body changes

module _ (f : FrameForm) (at : ℕ) (b : List ℕ) (s : HasFrameAt f at b) where
  abbrev front : List ℕ
  front = take at b

  at_long : length front ≡ at
  at_long = length-take-le at b (omega (arith, s.inside))

  head_long : length s.begins.head ≡ section_header_len f.extended
  head_long = s.begins.is_header.header_length

  before_long : length (front ++ s.begins.head) ≡ body_place f
  before_long = omega (arith, length-append front s.begins.head, at_long, head_long, s.offset)

  whole : b ≡ (front ++ s.begins.head) ++ (f.body ++ s.rest)
  whole = sym (take-append-drop at b) ∙ ap (λ (l : List ℕ). front ++ l) s.begins.text
      ∙ sym (append_assoc front s.begins.head (f.body ++ s.rest))

  before_is : take (body_place f) b ≡ front ++ s.begins.head
  before_is = ap (take (body_place f)) whole ∙ take_at (front ++ s.begins.head) (f.body ++ s.rest) (body_place f) before_long

  after_is : drop (body_place f + length f.body) b ≡ s.rest
  after_is = sym (drop-drop (length f.body) (body_place f) b)
      ∙ ap (λ (l : List ℕ). drop (length f.body) l)
      (ap (drop (body_place f)) whole ∙ drop_at (front ++ s.begins.head) (f.body ++ s.rest) (body_place f) before_long)
      ∙ drop_at f.body s.rest (length f.body) refl

  module _ (x m : List ℕ) (long : length x ≡ length f.body) (text : m ≡ take (body_place f) b ++ (x ++ drop (body_place f + length f.body) b)) where
    text_is : m ≡ front ++ (s.begins.head ++ (x ++ s.rest))
    text_is = text ∙ ap (λ (l : List ℕ). l ++ (x ++ drop (body_place f + length f.body) b)) before_is
        ∙ ap (λ (l : List ℕ). (front ++ s.begins.head) ++ (x ++ l)) after_is ∙ append_assoc front s.begins.head (x ++ s.rest)

    pub frame_changed : HasFrameAt (with_body f x) at m
    frame_changed = record {
      offset = s.offset;
      inside = omega (
        arith,
        ap length text_is,
        ap length whole,
        length-append front (s.begins.head ++ (x ++ s.rest)),
        length-append s.begins.head (x ++ s.rest),
        length-append x s.rest,
        length-append (front ++ s.begins.head) (f.body ++ s.rest),
        length-append front s.begins.head,
        length-append f.body s.rest,
        long,
        s.inside,
      );
      rest = s.rest;
      begins = record {
        head = s.begins.head;
        is_header = subst (λ (n : ℕ). IsSectionHeader f.extended f.kind n s.begins.head) (sym long) s.begins.is_header;
        text = ap (drop at) text_is ∙ drop_at front (s.begins.head ++ (x ++ s.rest)) at at_long;
      };
    }

    -- the bytes before the body are the same
    pub front_changed : take at m ≡ take at b
    front_changed = ap (take at) text_is ∙ take_at front (s.begins.head ++ (x ++ s.rest)) at at_long

  -- the frame is still there if only bytes after it changed
  module _ (o : List ℕ) (n : ℕ) (past : at + frame_len f ≤ n) (same : take n o ≡ take n b) (long : length o ≡ length b) where
    abbrev k : ℕ
    k = at + frame_len f

    used : k ≤ length b
    used = omega (arith, stands_within f b at s, s.offset)

    text : b ≡ ((front ++ s.begins.head) ++ f.body) ++ s.rest
    text = whole ∙ sym (append_assoc (front ++ s.begins.head) f.body s.rest)

    part_long : length ((front ++ s.begins.head) ++ f.body) ≡ k
    part_long = omega (arith, length-append (front ++ s.begins.head) f.body, before_long, s.offset)

    first_part : take k o ≡ (front ++ s.begins.head) ++ f.body
    first_part = sym (take-take_le k n o past) ∙ ap (take k) same ∙ take-take_le k n b past ∙ ap (take k) text
        ∙ take_at ((front ++ s.begins.head) ++ f.body) s.rest k part_long

    whole_still : o ≡ front ++ (s.begins.head ++ (f.body ++ drop k o))
    whole_still = sym (take-append-drop k o) ∙ ap (λ (l : List ℕ). l ++ drop k o) first_part
        ∙ append_assoc (front ++ s.begins.head) f.body (drop k o) ∙ append_assoc front s.begins.head (f.body ++ drop k o)

    pub frame_still : HasFrameAt f at o
    frame_still = record {
      offset = s.offset;
      inside = omega (arith, s.inside, long);
      rest = drop k o;
      begins = record {
        head = s.begins.head;
        is_header = s.begins.is_header;
        text = ap (drop at) whole_still ∙ drop_at front (s.begins.head ++ (f.body ++ drop k o)) at at_long;
      };
    }

-- a frame ends at the place of the next frame, or before it
up_past : (n : ℕ) → n ≤ up_to_4 n
up_past n = omega arith

-- ---- a stream

module _ (inside : Shape → Loses) (stay : (k : Shape) → SumsStay (inside k)) where
  -- the body of the frame g is what another body became
  abbrev pub Became : FrameForm → Type 0
  Became g = (k : Shape) × (y : List ℕ) × (k ≡ shape_of (with_body g y)) × inside k y g.body

  front_kept : (fs : List FrameForm) (at : ℕ) (b o : List ℕ) → FramesLose inside fs at b o → take at o ≡ take at b
  front_kept [] at b o (none, same) = ap (take at) same
  front_kept (f ∷ fs) at b o (here, (m, (x, lost, text), more)) =
      let next : ℕ = up_to_4 (at + frame_len f) in
      let low : at ≤ next = omega (arith, up_past (at + frame_len f)) in
      let later : take next o ≡ take next m = front_kept fs next m o more in
      sym (take-take_le at next o low) ∙ ap (take at) later ∙ take-take_le at next m low
      ∙ front_changed f at b here x m (body_long f at b here x lost) text
    where
      body_long : (f : FrameForm) (at : ℕ) (b : List ℕ) → HasFrameAt f at b → (x : List ℕ)
          → inside (shape_of f) (field (body_place f) (length f.body) b) x → length x ≡ length f.body
      body_long f at b here x lost = (stay (shape_of f) _ x lost).0 ∙ ap length (body_there f at b here).0

  -- a frame that begins bytes after a place is a frame at this place
  begun_there : (at : ℕ) (g : FrameForm) (gs : List FrameForm) (t : ℕ) (b : List ℕ) → SplitsFrom at (g ∷ gs) t (drop at b) → HasFrameAt g at b
  begun_there at g gs t b split =
      let begun = begins_of at g gs t (drop at b) split in
      record {
        offset = begun.0;
        inside = omega (arith, length_begun g (drop at b) begun.1 begun.2, size_least g, length-drop at b);
        rest = begun.1;
        begins = begun.2;
      }

  -- after the bodies of a frame and of the frames after it changed, the frame has another body
  module _ (f : FrameForm) (fs : List FrameForm) (at : ℕ) (b m o x : List ℕ) (here : HasFrameAt f at b)
      (lost : inside (shape_of f) (field (body_place f) (length f.body) b) x)
      (text : m ≡ take (body_place f) b ++ (x ++ drop (body_place f + length f.body) b))
      (more : FramesLose inside fs (up_to_4 (at + frame_len f)) m o) where
    abbrev pub next : ℕ
    next = up_to_4 (at + frame_len f)

    body_is : field (body_place f) (length f.body) b ≡ f.body
    body_is = (body_there f at b here).0

    pub long_body : length x ≡ length f.body
    long_body = (stay (shape_of f) _ x lost).0 ∙ ap length body_is

    pub still : HasFrameAt (with_body f x) at o
    still = frame_still (with_body f x) at m (frame_changed f at b here x m long_body text) o next
        (omega (arith, long_body, up_past (at + frame_len f))) (front_kept fs next m o more) (frames_sum inside stay fs next m o more).0

    pub lost_body : inside (shape_of f) f.body x
    lost_body = subst (λ (l : List ℕ). inside (shape_of f) l x) body_is lost

    -- the next frame begins where it began before
    pub next_same : up_to_4 (at + frame_len (with_body f x)) ≡ next
    next_same = ap (λ (n : ℕ). up_to_4 (at + (section_header_len f.extended + n))) long_body

    became : Became (with_body f x)
    became = (shape_of f, f.body, refl, lost_body)

    frames_on : (gs : List FrameForm) (t : ℕ) → SplitsFrom at gs t (drop at o)
        → ((hs : List FrameForm) (u : ℕ) → SplitsFrom next hs u (drop next o) → AllByRecursion Became hs) → AllByRecursion Became gs
    frames_on [] t split later = absurd (none_there at (with_body f x) t o split still)
    frames_on (g ∷ gs) t split later =
        let is : with_body f x ≡ g = first_is at g (with_body f x) gs t o split still in
        let rest = others_split at g gs t o split in
        let place : up_to_4 (at + frame_len g) ≡ next = ap (λ (h : FrameForm). up_to_4 (at + frame_len h)) (sym is) ∙ next_same in
        (subst Became is became, later gs rest.0 (subst (λ (i : ℕ). SplitsFrom i gs rest.0 (drop i o)) place rest.1))

  frames_became : (fs gs : List FrameForm) (t at : ℕ) (b o : List ℕ) → FramesLose inside fs at b o → SplitsFrom at gs t (drop at o)
      → AllByRecursion Became gs
  frames_became [] [] t at b o lost split = tt
  frames_became [] (g ∷ gs) t at b o (none, same) split =
      absurd (none g (subst (HasFrameAt g at) same (begun_there at g gs t o split)))
  frames_became (f ∷ fs) gs t at b o (here, (m, (x, lost, text), more)) split =
      frames_on f fs at b m o x here lost text more gs t split (λ hs u. frames_became fs hs u (up_to_4 (at + frame_len f)) m o more)

  pub stream_became : (fs gs : List FrameForm) (t : ℕ) (b o : List ℕ) → FramesLose inside fs 0 b o → SplitsFrom 0 gs t o
      → AllByRecursion Became gs
  stream_became fs gs t b o lost split = frames_became fs gs t 0 b o lost split
