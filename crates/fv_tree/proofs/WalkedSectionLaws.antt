-- Each section that a walk over a file reaches was read (`IsKept`), and so were the sections that are left (`AreKept`).
-- The steps:
-- 1. The shape of a frame determines how its section is made (`section_is`). If no volume is left, a section takes no
--    volume (`none_after`). The offset of a frame does not matter (`by_unplaced`).
-- 2. The sections of a stream that was read meet `AreKept` (`stream_kept`). So do the sections after the first
--    (`rest_kept`), and the first section meets `IsKept` (`first_kept`). Together they are all sections (`each_first`),
--    with the same tail (`tail_after`). There are fewer than 2 ^ 63 sections (`few_sections`), and none in fewer than 4
--    bytes (`no_sections`).
-- 3. The body of a group is a stream that was read, one level deeper (`group_kept`, `group_view`), and a section that
--    is opened as a volume takes the first volume (`volume_view`).
-- 4. The data of a file are a stream that was read, if its type holds sections (`file_kept`).
use Rattle.std.proofs.Common.{true, ◌≡◌, ℕ, zero, suc, ◌-◌, ◌^◌, ◌<◌, ◌≤◌, List, [], ◌∷◌, drop, length, map, refl, ap, ◌∙◌, arith}
use Rattle.std.proofs.Math.Numerals.{sub-one}
use Rattle.fv_base.specs.declared.guid.Guid.{Guid}
use Rattle.fv_base.proofs.Laws.{bytes_drop, common_steps, IsBytes, depth_limit, volume_limit}
use Rattle.fv_section.specs.Words.{FrameForm, after_first, frame_in}
use Rattle.fv_section.proofs.Laws.{begun_bytes}
use Rattle.fv_tree.specs.Words.{Pairwise, IsStoredFrame, MeansSection, Stream, holds_sections, Meaning, SectionMeaning, Section, Leaf, Nested}
use Rattle.fv_tree.specs.Words.{shape_of, Step, each_by, body_by, unopened, section_by, frames_of, tail_of, AreKept, IsKept, IsKeptFile}
use Rattle.fv_tree.specs.declared.shape.Shape.{Shape}
use Rattle.fv_tree.specs.declared.shape.Shape.TheVariants as shapes
use Rattle.fv_tree.proofs.SectionShapeLaws.{frame_small, list_back, volume_shape}
use Rattle.fv_tree.proofs.StreamFrameLaws.{bytes_after, few_frames, fewer, first_start, no_start, split_is, unplaced}

-- ---- a section by its shape

-- the step that makes the sections in a section
abbrev pub below : ℕ → Step
below zero = unopened
below (suc n) = section_by n

-- the section in a frame of this shape
pub section_is : (n : ℕ) (f : FrameForm) (vs : List Meaning) (shape : Shape) → shape_of f ≡ shape → section_by n f vs
    ≡ (Section f.kind f.extended (body_by shape (below n) f vs).0, (body_by shape (below n) f vs).1)
section_is zero f vs shape is = rw is refl
section_is (suc n) f vs shape is = rw is refl

-- ---- no volumes

-- if no volume is given, no volume is left
each_none : (step : Step) → ((f : FrameForm) → (step f []).1 ≡ []) → (fs : List FrameForm) → (each_by step fs []).1 ≡ []
each_none step none [] = refl
each_none step none (f ∷ fs) = ap (λ vs. (each_by step fs vs).1) (none f) ∙ each_none step none fs

body_none : (shape : Shape) (step : Step) → ((f : FrameForm) → (step f []).1 ≡ []) → (f : FrameForm) → (body_by shape step f []).1 ≡ []
body_none shape step none f = grind (arith, common_steps, each_none) steps 150000

none_taken : (n : ℕ) (f : FrameForm) → (section_by n f []).1 ≡ []
none_taken zero f = body_none (shape_of f) unopened (λ g. refl) f
none_taken (suc n) f = body_none (shape_of f) (section_by n) (none_taken n) f

pub none_after : (n : ℕ) (f : FrameForm) (vs : List Meaning) → length vs ≡ 0 → vs ≡ (section_by n f vs).1
none_after n f vs short = grind (arith, common_steps, none_taken)

-- ---- the offset of a frame does not matter

body_unplaced : (shape : Shape) (step : Step) (f : FrameForm) (vs : List Meaning) → body_by shape step (unplaced f) vs ≡ body_by shape step f vs
body_unplaced shape step f vs = grind (arith, common_steps) steps 150000

pub by_unplaced : (n : ℕ) (f : FrameForm) (vs : List Meaning) → section_by n (unplaced f) vs ≡ section_by n f vs
by_unplaced n f vs = cc (section_is n f vs _ refl, section_is n (unplaced f) vs _ refl, body_unplaced (shape_of f) (below n) f vs)

unplaced_means : (n : ℕ) (f : FrameForm) (s : SectionMeaning) → MeansSection n f s → MeansSection n (unplaced f) s
unplaced_means n f s h = grind (arith, common_steps) steps 150000

pairs_unplaced : (n : ℕ) (fs : List FrameForm) (ss : List SectionMeaning) → Pairwise (MeansSection n) fs ss
    → Pairwise (MeansSection n) (map unplaced fs) ss
pairs_unplaced n [] [] h = tt
pairs_unplaced n (f ∷ fs) (s ∷ ss) (h, more) = (unplaced_means n f s h, pairs_unplaced n fs ss more)
pairs_unplaced n _ _ h = absurd h

-- ---- a stream

-- if the sections that are made from the bytes b and the volumes vs are the meaning of b, they were read
pub stream_kept : (n : ℕ) (b : List ℕ) (vs : List Meaning) (t : ℕ) → n ≤ depth_limit → IsBytes b → length b ≤ volume_limit
    → Stream n (each_by (section_by n) (frames_of b) vs).0 t b → AreKept n b vs
stream_kept n b vs t few small short stream = grind (arith, common_steps, split_is stream.0 t b stream.1, pairs_unplaced n stream.0 _ stream.2)

-- the bytes r begin with a frame: if the sections of r were read, the first section was read, and so were the sections
-- after it
module _ (n : ℕ) (r : List ℕ) (vs : List Meaning) (least : 4 ≤ length r) where
  frames_are : frames_of r ≡ frame_in 0 r ∷ frames_of (after_first r)
  frames_are = ap (λ (s : List (List ℕ) × List ℕ). map (frame_in 0) s.0) (first_start r least)

  pub tail_after : tail_of r ≡ tail_of (after_first r)
  tail_after = ap (λ (s : List (List ℕ) × List ℕ). length s.1) (first_start r least)

  pub each_first : each_by (section_by n) (frames_of r) vs ≡ each_by (section_by n) (frame_in 0 r ∷ frames_of (after_first r)) vs
  each_first = ap (λ fs. each_by (section_by n) fs vs) frames_are

  pub first_kept : AreKept n r vs → IsKept n (frame_in 0 r) vs
  first_kept kept = grind (arith, common_steps, rw (first_start r least) at kept.framed, rw frames_are at kept.means) steps 150000

  pub rest_kept : AreKept n r vs → AreKept n (after_first r) (section_by n (frame_in 0 r) vs).1
  rest_kept kept = grind (arith, common_steps, bytes_after, fewer, first_start, rw frames_are at kept.means) steps 150000

-- there are as many sections as frames
each_length : (step : Step) (fs : List FrameForm) (vs : List Meaning) → length (each_by step fs vs).0 ≡ length fs
each_length step [] vs = refl
each_length step (f ∷ fs) vs = ap suc (each_length step fs (step f vs).1)

pub few_sections : (n : ℕ) (r : List ℕ) (vs : List Meaning) → AreKept n r vs → length (each_by (section_by n) (frames_of r) vs).0 < 2 ^ 63
few_sections n r vs kept = omega (arith, each_length (section_by n) (frames_of r) vs, few_frames r, kept.short)

-- fewer than 4 bytes contain no section, and are the tail
pub no_sections : (step : Step) (r : List ℕ) (vs : List Meaning) → length r < 4 → (each_by step (frames_of r) vs ≡ ([], vs)) × (tail_of r ≡ length r)
no_sections step r vs few = grind (arith, common_steps, no_start) steps 150000

-- ---- a group

body_bytes : (f : FrameForm) → IsStoredFrame f → IsBytes f.body
body_bytes f (b, small, short, stands) = (begun_bytes f (drop f.offset b) stands.rest (bytes_drop f.offset b small) stands.begins).0

-- if a group was read, n is at least 1, and the body of the group is a stream of sections that were read
pub group_kept : (n : ℕ) (f : FrameForm) (vs : List Meaning) → shape_of f ≡ shapes.Group → IsKept n f vs
    → (0 < n) × AreKept (n - 1) f.body vs
group_kept zero f vs is kept = absurd (rw is at kept.means).2.1
group_kept (suc n) f vs is kept =
    let stream = rw list_back at (rw is at kept.means).2.1 in
    (omega arith, rw (sub-one (suc n)) (stream_kept n f.body vs _ (omega arith) (body_bytes f kept.stored) (frame_small f kept.stored) stream))

-- the body of a group is made from the frames in it, one level deeper
pub group_view : (n : ℕ) (f : FrameForm) (vs : List Meaning) → shape_of f ≡ shapes.Group → 0 < n → section_by n f vs
    ≡ (Section f.kind f.extended (body_by shapes.Group (section_by (n - 1)) f vs).0, (body_by shapes.Group (section_by (n - 1)) f vs).1)
group_view zero f vs is deep = absurd (omega (arith, deep))
group_view (suc n) f vs is deep = rw (sub-one (suc n)) (section_is (suc n) f vs shapes.Group is)

-- ---- an opened volume

-- a section that is opened as a volume takes the first volume
pub volume_view : (n : ℕ) (f : FrameForm) (vs : List Meaning) → shape_of f ≡ shapes.Volume → IsKept n f vs
    → (v : Meaning) × (rest : List Meaning) × (vs ≡ v ∷ rest) × (section_by n f vs ≡ (Section f.kind f.extended (Nested v), rest))
volume_view n f [] is kept = absurd (shut n (rw (section_is n f [] shapes.Volume is) at kept.means)) where
  shut : (n : ℕ) → MeansSection n f (Section f.kind f.extended (Leaf f.body)) → ⊥
  shut zero (p, q, (off, not, r)) = not (volume_shape f is).kind (volume_shape f is).opens
  shut (suc n) (p, q, (off, not, r)) = not (volume_shape f is).kind (volume_shape f is).opens
volume_view n f (v ∷ rest) is kept = (v, rest, refl, section_is n f (v ∷ rest) shapes.Volume is)

-- ---- the data of a file

-- the data of a file that was read are a stream of sections that were read, if its type holds sections
pub file_kept : (n : ℕ) (payload : List ℕ) (vs : List Meaning) (name : Guid) (kind attributes : ℕ) → holds_sections kind ≡ true
    → IsKeptFile n payload vs name kind attributes → AreKept n payload vs
file_kept n payload vs name kind attributes holds kept =
    let stream = rw (list_back, kept.payload_is) at (rw holds at kept.means).3.1 in
    stream_kept n payload vs (tail_of payload) kept.few (kept.small holds) kept.short stream
