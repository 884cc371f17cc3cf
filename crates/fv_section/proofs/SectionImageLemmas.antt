-- Frames that are written one after another are read again as the same frames.
use Rattle.std.proofs.Common.{◌≡◌, ℕ, ◌+◌, ◌-◌, ◌*◌, ◌/◌, ◌%◌, [], ◌∷◌, ◌++◌, List, length, refl, arith, Bool, replicate}
use Rattle.fv_base.proofs.Laws.{common_steps, length-replicate, le-le_bytes}
use Rattle.fv_section.specs.Words.{FrameForm, BeginsFrame, IsSectionHeader, frame_len, up_to_4, FitsForm, StreamsAreRead, section_head_of, stream_of}

-- a header that is written has its form, its type and its size
pub head_is : (kind : ℕ) (extended : Bool) (n : ℕ) → FitsForm extended n → IsSectionHeader extended kind n (section_head_of kind extended n)
head_is kind extended n fits = grind (arith, common_steps, le-le_bytes)

begins_with : (f : FrameForm) (rest : List ℕ) → FitsForm f.extended (length f.body)
    → BeginsFrame f (section_head_of f.kind f.extended (length f.body) ++ (f.body ++ rest)) rest
begins_with f rest fits = grind (arith, common_steps, head_is)

pub streams_are_read : StreamsAreRead
streams_are_read at [] tail in_fours place = (refl, place)
streams_are_read at (f ∷ []) tail in_fours (o, fits, room) =
    (replicate tail 0, begins_with f (replicate tail 0) fits, o, length-replicate {A = ℕ} tail 0, room)
streams_are_read at (f ∷ g ∷ fs) tail in_fours (o, fits, place) = (
  replicate (up_to_4 (frame_len f) - frame_len f) 0,
  stream_of (g ∷ fs) tail,
  begins_with f (replicate (up_to_4 (frame_len f) - frame_len f) 0 ++ stream_of (g ∷ fs) tail) fits,
  o,
  fills at (frame_len f) (length (replicate (up_to_4 (frame_len f) - frame_len f) 0)) in_fours
      (length-replicate {A = ℕ} (up_to_4 (frame_len f) - frame_len f) 0),
  streams_are_read (up_to_4 (at + frame_len f)) (g ∷ fs) tail (fourth (at + frame_len f)) place,
)
  where
    fills : (a n k : ℕ) → a % 4 ≡ 0 → k ≡ (n + 3) / 4 * 4 - n → a + n + k ≡ (a + n + 3) / 4 * 4
    fills a n k h e = omega arith

    fourth : (n : ℕ) → (n + 3) / 4 * 4 % 4 ≡ 0
    fourth n = omega arith
