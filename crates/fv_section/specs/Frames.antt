-- Streams of sections (PI specification, volume 3, section 3.2.4, EFI_COMMON_SECTION_HEADER and
-- EFI_COMMON_SECTION_HEADER2).
use Rattle.std.specs.Prelude.{◌≡◌, ◌≢◌, ℕ, ◌+◌, ◌*◌, ◌/◌, ◌≤◌, Bool, true, false, List, [], ◌∷◌, ◌++◌, length}
use Rattle.std.specs.Prelude.{slice_index}
use Rattle.fv_base.specs.Words.{le_at}

-- a frame is a section in its stream: the offset of its header, in bytes from the stream's start; its type; whether its
-- header is extended; and its body
pub record FrameForm : Type 0 where
  pub offset : ℕ
  pub kind : ℕ
  pub extended : Bool
  pub body : List ℕ

-- the length of a section header in bytes: 4 if it is short, 8 if it is extended
abbrev pub section_header_len : Bool → ℕ
section_header_len false = 4
section_header_len true = 8

-- the length of a frame in bytes, including its header
abbrev pub frame_len : FrameForm → ℕ
frame_len f = section_header_len f.extended + length f.body

-- the header h states the size n: a short header in Size, and n is not 0xFFFFFF; an extended header in ExtendedSize,
-- and its Size is 0xFFFFFF
abbrev pub StatesSize : Bool → ℕ → List ℕ → Type 0
StatesSize false n h = (le_at 0 3 h ≡ n) × (n ≢ 0xffffff)
StatesSize true n h = (le_at 0 3 h ≡ 0xffffff) × (le_at 4 4 h ≡ n)

-- h is the header of a section of this form and type whose body has n bytes; the size that it states includes the
-- header
pub record IsSectionHeader (extended : Bool) (kind n : ℕ) (h : List ℕ) : Type 0 where
  pub header_length : length h ≡ section_header_len extended
  pub kind_is : slice_index h 3 ≡ kind
  pub states : StatesSize extended (section_header_len extended + n) h

-- b is the header and the body of the frame f, followed by rest
pub record BeginsFrame (f : FrameForm) (b rest : List ℕ) : Type 0 where
  pub head : List ℕ
  pub is_header : IsSectionHeader f.extended f.kind (length f.body) head
  pub text : b ≡ head ++ (f.body ++ rest)

-- the least multiple of 4 that is at least n
abbrev pub up_to_4 : ℕ → ℕ
up_to_4 n = (n + 3) / 4 * 4

-- b is the part of a stream from the offset `at` on: it consists of these frames, in order. Between two frames, filler
-- of any value leads to the first multiple of 4 at or after the end of the first of them. After the last frame `tail`
-- bytes follow, at most up to the first multiple of 4 at or after its end. Without frames, b is empty and `tail` is 0
abbrev pub SplitsFrom : ℕ → List FrameForm → ℕ → List ℕ → Type 0
SplitsFrom at [] tail b = (b ≡ []) × (tail ≡ 0)
SplitsFrom at (f ∷ []) tail b =
    (rest : List ℕ) × BeginsFrame f b rest × (f.offset ≡ at) × (length rest ≡ tail)
    × (at + frame_len f + tail ≤ up_to_4 (at + frame_len f))
SplitsFrom at (f ∷ g ∷ fs) tail b =
    (filler : List ℕ) × (rest : List ℕ) × BeginsFrame f b (filler ++ rest) × (f.offset ≡ at)
    × (at + frame_len f + length filler ≡ up_to_4 (at + frame_len f))
    × SplitsFrom (up_to_4 (at + frame_len f)) (g ∷ fs) tail rest

-- b is a stream of these frames, with `tail` bytes after the last frame
abbrev pub Splits : List FrameForm → ℕ → List ℕ → Type 0
Splits fs tail b = SplitsFrom 0 fs tail b
