-- One step of the walk that takes the marks of a volume's own files away, and the walk; and a section in its stream.
use Rattle.std.specs.Prelude.{◌≡◌, ◌≢◌, ◌⊎◌, ℕ, ◌+◌, ◌<◌, ◌≤◌, List, [], ◌∷◌, length, take, drop}
use Rattle.fv_base.specs.declared.fault.Fault.{Fault}
use Rattle.fv_base.specs.declared.flash.FileSystem.{FileSystem}
use Rattle.fv_base.specs.declared.flash.Polarity.{Polarity}
use Rattle.fv_base.specs.declared.fault.FaultKind.TheVariants as kinds
use Rattle.fv_file.specs.Words.{CellForm, IsFirstCellFault, IsNextFault, Unmarks, Walked, left_at, unmarked}
use Rattle.fv_section.specs.Words.{FrameForm, frame_len, up_to_4}
use Rattle.fv_tree.specs.Words.{body_place, shape_of}
use Rattle.fv_marks.specs.declared.section.Section.{Section}

-- ---- the cells of a volume

-- a cell of n bytes begins at the offset `at` of the bytes v
abbrev pub CellOf : FileSystem → Polarity → ℕ → ℕ → List ℕ → Type 0
CellOf s p at n v =
    ((c : CellForm) × Walked (left_at s p at (drop at v)) (c ∷ []) (left_at s p (at + n) (drop (at + n) v)))
    × (0 < n) × (at + n ≤ length v)

-- the fault is the fault of the next cell, at the offset `at` of the bytes v
abbrev pub NextFaultAt : FileSystem → Polarity → ℕ → List ℕ → Fault → Type 0
NextFaultAt s p at v f = IsNextFault (left_at s p at (drop at v)) f

-- w is v; or the file at the offset `at` of v is fixed, and w is v without the mark of this file
abbrev pub MarkLost : FileSystem → Polarity → ℕ → List ℕ → List ℕ → Type 0
MarkLost s p at v w = (w ≡ v) ⊎ (((f : Fault) × NextFaultAt s p at v f × (f.kind ≡ kinds.Fixed)) × (w ≡ unmarked at v))

-- a walk ends at the offset `at` of the bytes v: no bytes are left, or the next cell has a fault that is not Fixed
abbrev pub WalkEnds : FileSystem → Polarity → ℕ → List ℕ → Type 0
WalkEnds s p at v = (drop at v ≡ []) ⊎ ((f : Fault) × NextFaultAt s p at v f × (f.kind ≢ kinds.Fixed))

-- w is v, in whose body, from the offset `first` on, marks were taken away one after another, each where the first fault
-- is Fixed. At the end, the first fault of the body, if it has one, is not Fixed
pub record BodyUnmarked (s : FileSystem) (p : Polarity) (first : ℕ) (v w : List ℕ) : Type 0 where
  pub places : List ℕ
  pub marks : Unmarks s p first places (drop first v) (drop first w)
  pub front : take first w ≡ take first v
  pub length_is : length w ≡ length v
  pub ends : (f : Fault) → IsFirstCellFault s p first (drop first w) f → f.kind ≢ kinds.Fixed

-- ---- the sections of a stream

-- the section is the frame f
pub record IsSection (f : FrameForm) (s : Section) : Type 0 where
  pub shape_is : s.shape ≡ shape_of f
  pub start : s.start ≡ body_place f
  pub end : s.end ≡ s.start + length f.body
  pub next : s.next ≡ up_to_4 (f.offset + frame_len f)
