-- A frame in its stream: the frame at a place is the first frame of a split that begins there (`first_is`), and its body
-- is the bytes at the body's place (`body_there`).
use Rattle.std.proofs.Common.{◌≡◌, ◌≤◌, ℕ, ◌+◌, [], ◌∷◌, ◌++◌}
use Rattle.fv_base.proofs.Laws.{List, length, take, drop, refl, sym, ap, ◌∙◌, arith, field, length-drop, drop-drop, drop_at, take_at}
use Rattle.fv_section.specs.Words.{FrameForm, HasFrameAt, SplitsFrom, section_header_len}
use Rattle.fv_section.proofs.Laws.{begins_of, one_frame, stands_within}
use Rattle.fv_tree.specs.Words.{body_place}

-- the body of a frame at a place, and where it ends
pub body_there : (f : FrameForm) (at : ℕ) (b : List ℕ) → HasFrameAt f at b
    → (field (body_place f) (length f.body) b ≡ f.body) × (body_place f + length f.body ≤ length b)
body_there f at b s =
    let n : ℕ = section_header_len f.extended in
    let rest : drop (body_place f) b ≡ f.body ++ s.rest =
    ap (λ (i : ℕ). drop i b) (omega (arith, s.offset)) ∙ sym (drop-drop n at b) ∙ ap (drop n) s.begins.text
    ∙ drop_at s.begins.head (f.body ++ s.rest) n s.begins.is_header.header_length in (
      ap (take (length f.body)) rest ∙ take_at f.body s.rest (length f.body) refl,
      omega (arith, stands_within f b at s),
    )

-- the frame at the place where a split begins is the first of the split
pub first_is : (at : ℕ) (f g : FrameForm) (fs : List FrameForm) (t : ℕ) (b : List ℕ) → SplitsFrom at (f ∷ fs) t (drop at b)
    → HasFrameAt g at b → g ≡ f
first_is at f g fs t b split s =
    let begun = begins_of at f fs t (drop at b) split in
    (one_frame g f (drop at b) s.rest begun.1 (s.offset ∙ sym begun.0) s.begins begun.2).0

-- where a split has no frame, no frame begins
pub none_there : (at : ℕ) (g : FrameForm) (t : ℕ) (b : List ℕ) → SplitsFrom at [] t (drop at b) → HasFrameAt g at b → ⊥
none_there at g t b (none, zero) s = omega (arith, ap length none, length-drop at b, s.inside)
