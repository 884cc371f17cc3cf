-- Frames at their offsets in some bytes, as calls return them, and reading back streams that were written (PI
-- specification, volume 3, section 3.2.4).
use Rattle.fv_section.specs.Frames.{FrameForm, section_header_len, frame_len, BeginsFrame, up_to_4, SplitsFrom}
use Rattle.fv_section.specs.declared.frame.Frame.{Frame}
use Rattle.std.specs.List.{AllByRecursion}
use Rattle.std.specs.Prelude.{◌≡◌, ℕ, ◌+◌, ◌<◌, ◌≤◌, Bool, true, false, List, [], ◌∷◌, ◌++◌, length, drop, ◌%◌, zero}
use Rattle.std.specs.Prelude.{suc, ◌-◌, take, slice_index, if◌then◌else◌, nat_lt}
use Rattle.fv_section.specs.SectionImage.{stream_of}
use Rattle.fv_section.specs.FrameChecks.{has_extended_size, section_header_len_at, section_size_at}

-- the frame that a `Frame` of the code describes, with its body as a list
abbrev pub frame_form : Frame → FrameForm
frame_form f = record { offset = f.offset; kind = f.kind; extended = f.extended; body = f.body.now }

-- the frame f, with its header and its body, lies in b at the offset `at`
pub record HasFrameAt (f : FrameForm) (at : ℕ) (b : List ℕ) : Type 0 where
  pub offset : f.offset ≡ at
  pub inside : at < length b
  pub rest : List ℕ
  pub begins : BeginsFrame f (drop at b) rest

-- every frame ends at most `end` bytes after the stream's start
abbrev pub FramesWithin : ℕ → List FrameForm → Type 0
FramesWithin end fs = AllByRecursion (λ f. f.offset + frame_len f ≤ end) fs

-- a body of n bytes fits in a section with a header of this form
abbrev pub FitsForm : Bool → ℕ → Type 0
FitsForm false n = section_header_len false + n ≤ 0xfffffe
FitsForm true n = section_header_len true + n ≤ 0xffffffff

-- the header h followed by any body of n bytes is a frame of this form and type
abbrev pub IsHeadOfFrame : Bool → ℕ → ℕ → List ℕ → Type 0
IsHeadOfFrame extended kind n h =
    (at : ℕ) (body rest : List ℕ) → length body ≡ n
    → BeginsFrame (record { offset = at; kind = kind; extended = extended; body = body }) (h ++ (body ++ rest)) rest

-- the frames are in place from the offset `at` on: the first begins at `at`, and each other at the first multiple of 4
-- at or after the end of the previous frame; each body fits the form of its header; and the tail ends at most at the
-- first multiple of 4 at or after the end of the last frame. Without frames, the tail is 0
abbrev pub InPlace : ℕ → List FrameForm → ℕ → Type 0
InPlace at [] tail = tail ≡ 0
InPlace at (f ∷ []) tail =
    (f.offset ≡ at) × FitsForm f.extended (length f.body) × (at + frame_len f + tail ≤ up_to_4 (at + frame_len f))
InPlace at (f ∷ g ∷ fs) tail =
    (f.offset ≡ at) × FitsForm f.extended (length f.body) × InPlace (up_to_4 (at + frame_len f)) (g ∷ fs) tail

-- frames that are in place (`InPlace`) and written one after another (`stream_of`) are read back as the same frames
abbrev pub StreamsAreRead : Type 0
StreamsAreRead = (at : ℕ) (fs : List FrameForm) (tail : ℕ) → at % 4 ≡ 0 → InPlace at fs tail
    → SplitsFrom at fs tail (stream_of fs tail)

-- the frame at the offset `at`, as its header describes it; r is the bytes from `at` on
abbrev pub frame_in : ℕ → List ℕ → FrameForm
frame_in at r = record {
  offset = at;
  kind = slice_index r 3;
  extended = has_extended_size r;
  body = take (section_size_at r - section_header_len_at r) (drop (section_header_len_at r) r);
}

-- the bytes that are left after a frame of n bytes at the start of r. If r goes past the first multiple of 4 at or after
-- the end of the frame, they begin at that multiple. Otherwise they begin directly after the frame
abbrev pub after_size : ℕ → List ℕ → List ℕ
after_size n r = if nat_lt (up_to_4 n) (length r) then drop (up_to_4 n) r else drop n r

-- the bytes that are left after the frame at the start of r, whose header states its size: the bytes from the next
-- frame on or, if no frame follows, the tail
abbrev pub after_first : List ℕ → List ℕ
after_first r = after_size (frame_len (frame_in 0 r)) r

-- the offset at which the next frame would begin, after the frame at the offset `at`
abbrev pub offset_after : ℕ → List ℕ → ℕ
offset_after at b = up_to_4 (at + frame_len (frame_in at (drop at b)))

-- n successive frames as their headers in b describe them, the first at the offset `at`
abbrev pub frames_from : ℕ → ℕ → List ℕ → List FrameForm
frames_from zero at b = []
frames_from (suc n) at b = frame_in at (drop at b) ∷ frames_from n (offset_after at b) b

-- each of these n successive frames lies in b at its offset, the first at the offset `at`
abbrev pub HasFrames : ℕ → ℕ → List ℕ → Type 0
HasFrames zero at b = Unit {0}
HasFrames (suc n) at b = HasFrameAt (frame_in at (drop at b)) at b × HasFrames n (offset_after at b) b
