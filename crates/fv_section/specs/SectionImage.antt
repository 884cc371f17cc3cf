-- Section headers and streams as they are written (PI specification, volume 3, section 3.2.4).
use Rattle.std.specs.Prelude.{ℕ, ◌+◌, ◌-◌, Bool, true, false, List, [], ◌∷◌, ◌++◌, length, replicate}
use Rattle.fv_base.specs.Words.{le_bytes}
use Rattle.fv_section.specs.Frames.{FrameForm, section_header_len, frame_len, up_to_4}

-- the bytes of a section header of this type and form, for a body of n bytes
abbrev pub section_head_of : ℕ → Bool → ℕ → List ℕ
section_head_of kind false n = le_bytes 3 (section_header_len false + n) ++ (kind ∷ [])
section_head_of kind true n = le_bytes 3 0xffffff ++ (kind ∷ le_bytes 4 (section_header_len true + n))

-- the bytes of a stream of these frames: each is a header and a body, zero bytes between two frames lead to a multiple
-- of 4 (none if the frame ends at one), and `tail` zero bytes follow the last frame
abbrev pub stream_of : List FrameForm → ℕ → List ℕ
stream_of [] tail = []
stream_of (f ∷ []) tail = section_head_of f.kind f.extended (length f.body) ++ (f.body ++ replicate tail 0)
stream_of (f ∷ g ∷ fs) tail =
    section_head_of f.kind f.extended (length f.body)
    ++ (f.body ++ (replicate (up_to_4 (frame_len f) - frame_len f) 0 ++ stream_of (g ∷ fs) tail))
