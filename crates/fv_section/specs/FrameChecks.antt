-- The checks of a section header in order, and the faults of a stream: its first fault, or any fault (PI specification,
-- volume 3, section 3.2.4).
use Rattle.std.specs.Prelude.{◌≡◌, ℕ, ◌%◌, ◌<◌, ◌==◌, nat_le, ◌&&◌, Bool, true, false, List, [], ◌∷◌, length, take}
use Rattle.std.specs.Prelude.{drop}
use Rattle.fv_base.specs.Words.{Check, check, Which, First, Fails, le_at}
use Rattle.fv_base.specs.declared.fault.Fault.{Fault}
use Rattle.fv_base.specs.declared.fault.FaultKind.TheVariants as kinds
use Rattle.fv_section.specs.Frames.{FrameForm, section_header_len, Splits}

-- whether the header at the start of r is extended: its Size is 0xFFFFFF
abbrev pub has_extended_size : List ℕ → Bool
has_extended_size r = le_at 0 3 r == 0xffffff

-- the length of the header at the start of r
abbrev pub section_header_len_at : List ℕ → ℕ
section_header_len_at r = section_header_len (has_extended_size r)

-- the size that a short or an extended header at the start of r states
abbrev pub section_size_in : Bool → List ℕ → ℕ
section_size_in false r = le_at 0 3 r
section_size_in true r = le_at 4 4 r

-- the size of the section at the start of r, including its header: Size, or ExtendedSize if the header is extended
abbrev pub section_size_at : List ℕ → ℕ
section_size_at r = section_size_in (has_extended_size r) r

-- r holds a complete header, and the size that it states is at least the length of the header and at most the length of
-- r
abbrev pub has_section_size : List ℕ → Bool
has_section_size r = nat_le (section_header_len_at r) (length r)
    && (nat_le (section_header_len_at r) (section_size_at r) && nat_le (section_size_at r) (length r))

-- the checks of the section at the offset `at`, in order; r is the bytes from `at` on
abbrev pub frame_checks : ℕ → List ℕ → List (Check Fault)
frame_checks at r =
    check (nat_le 4 (length r)) kinds.SectionTail at
    ∷ check (has_section_size r) kinds.SectionSize at
    ∷ []

-- b splits into frames up to the offset `at`, a multiple of 4 within b; the fault comes from a check that fails there:
-- the first, or any, as `which` selects
pub record FrameFault (which : Which) (b : List ℕ) (fault : Fault) : Type 0 where
  pub frames : List FrameForm
  pub tail : ℕ
  pub at : ℕ
  pub split : Splits frames tail (take at b)
  pub multiple : at % 4 ≡ 0
  pub inside : at < length b
  pub fails : Fails which (frame_checks at (drop at b)) fault

-- the fault is the first fault of the stream: it comes from the first check that fails at the offset where the next
-- frame should begin
abbrev pub IsFirstFrameFault : List ℕ → Fault → Type 0
IsFirstFrameFault = FrameFault First
