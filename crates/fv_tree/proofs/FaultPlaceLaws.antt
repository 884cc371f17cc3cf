-- The first fault of bytes lies within them or at their end, and no deeper than groups and volumes may nest. The steps:
-- 1. The first fault of the names of files, or of the cells of a body and the files in them, lies within the volume
--    (`names_within`, `stored_within`).
-- 2. If the first fault of each section lies within the section, then the same is true of the first fault of a stream,
--    a body and a volume (`stream_by`, `body_by`, `volume_by`).
-- 3. By induction on the nesting depth the first fault of each section lies within the section (`section_lies`), and so
--    the first fault of bytes lies within them (`first_within`).
use Rattle.std.proofs.Common.{◌≢◌, ◌≤◌, ℕ, ◌+◌, zero, suc, List, length, take, drop, arith, inl, inr, length-drop, length-take-le}
use Rattle.fv_base.proofs.Laws.{common_steps, AllByRecursion, in_middle, want_known, First, out_of_memory, depth_limit}
use Rattle.fv_base.specs.declared.fault.Fault.{Fault}
use Rattle.fv_base.specs.declared.fault.Place.{Place}
use Rattle.fv_file.proofs.Laws.{body_within}
use Rattle.fv_head.specs.declared.extent.Extent.{Extent}
use Rattle.fv_head.proofs.Laws.{fault_within, first_lies}
use Rattle.fv_section.specs.Words.{FrameForm, frame_len}
use Rattle.fv_section.proofs.Laws.{frame_within, whole_within}
use Rattle.fv_tree.specs.Words.{Moved, NamesFault, StoredFault, BodyFault, InSection, InStream, InVolume, IsFirstOfVolume, data_at, outermost}
use Rattle.fv_tree.specs.Words.{FileForm, files_in}
use Rattle.fv_tree.proofs.BodyLaws.{LiesBy, cells_inside, files_lie, of_current}

-- ---- one level of nesting

-- the fault lies within the first len bytes after a place, and at most n levels deeper than the place
abbrev LiesIn : Place → ℕ → ℕ → Fault → Type 0
LiesIn at len n e = (e.place.offset ≤ at.offset + len) × (e.place.depth ≤ at.depth + n)

-- a fault that is moved to a place lies within the bytes that begin there
moved_lies : (P : Fault → Type 0) (at : Place) (len n : ℕ) (e : Fault) → ((f : Fault) → P f → f.place.offset ≤ len) → Moved at P e
    → LiesIn at len n e
moved_lies P at len n e within (f, first, is) = grind (arith, common_steps)

-- the first fault of the names of files lies within the bytes in which the files lie
names_within : (end len : ℕ) (fs : List FileForm) (f : Fault) → AllByRecursion (LiesBy end) fs → NamesFault First len fs f
    → f.place.offset ≤ end
names_within end len fs f all (inl (x, (before, after, cut, none, has), is)) =
    rw is (omega (arith, in_middle (LiesBy end) before x after (rw cut at all)))
names_within end len fs f all (inr (none, x, (before, after, cut, top, off), is)) =
    rw is (omega (arith, in_middle (LiesBy end) before x after (rw cut at (of_current (LiesBy end) fs all))))

module _ (x : Extent) (v : List ℕ) (within : x.first ≤ length v) where
  -- the first fault of the cells of a body and the files in them lies within the volume
  stored_within : (f : Fault) → StoredFault First x v f → f.place.offset ≤ length v
  stored_within f (inl first) =
      let low = body_within x.file_system x.polarity x.first (drop x.first v) f first in omega (arith, low, length-drop x.first v, within)
  stored_within f (inr (cells, tiles, names)) = names_within (length v) x.length _ f (files_lie _ cells (cells_inside x v cells within tiles)) names

  -- so does a fault that is this first fault or out of memory
  pub stopped_within : (f : Fault) → (f ≢ out_of_memory → StoredFault First x v f) → f.place.offset ≤ length v
  stopped_within f first = grind (arith, common_steps, want_known, stored_within) steps 150000

-- ---- a stream and a volume, given the same of their sections

-- the first fault of a section lies within its frame
abbrev SectionLies : ℕ → Type 0
SectionLies n = (e : Fault) (f : FrameForm) (at : Place) → InSection First n e f at → LiesIn at (f.offset + frame_len f) n e

-- the first fault of a stream lies within its bytes
stream_by : (n : ℕ) → SectionLies n → (e : Fault) (b : List ℕ) (at : Place) → InStream First n e b at → LiesIn at (length b) n e
stream_by n low e b at (inl moved) = moved_lies _ at (length b) n e (frame_within b) moved
stream_by n low e b at (inr (frames, tail, split, (before, f, behind, is, read, first))) =
    let ends = in_middle (λ g. g.offset + frame_len g ≤ length b) before f behind (rw is at (whole_within frames tail b split)) in
    omega (arith, low e f at first, ends)

module _ (n : ℕ) (low : SectionLies n) (e : Fault) (at : Place) where
  -- the first fault of a body lies within the volume
  body_by : (x : Extent) (v : List ℕ) → x.first ≤ length v → BodyFault First n (InStream First n) x e v at → LiesIn at (length v) n e
  body_by x v within (inl moved) = moved_lies _ at (length v) n e (stored_within x v within) moved
  body_by x v within (inr (cells, tiles, right, (before, f, behind, is, read, (holds, first)))) =
      let all = of_current (LiesBy (length v)) (files_in cells) (files_lie (length v) cells (cells_inside x v cells within tiles)) in
      omega (arith, stream_by n low e f.payload (data_at at f) first, in_middle (LiesBy (length v)) before f behind (rw is at all))

  -- the first fault of a volume lies within its bytes
  volume_by : (b : List ℕ) → InVolume First n e b at → LiesIn at (length b) n e
  volume_by b (inl moved) = moved_lies _ at (length b) n e (fault_within b) moved
  volume_by b (inr (h, x, front, first)) =
      let long = length-take-le x.length b front.is_within in
      omega (arith, body_by x (take x.length b) (omega (arith, long, first_lies b h x front)) first, long, front.is_within)

-- ---- the recursion

section_lies : (n : ℕ) → SectionLies n
section_lies zero e f at (which, is) = rw is (omega arith)
section_lies (suc n) e f at (inl (group, first)) = omega (arith, stream_by n (section_lies n) e f.body _ first)
section_lies (suc n) e f at (inr (kind, opens, first)) = omega (arith, volume_by n (section_lies n) e _ f.body first)

-- ---- bytes that are passed to a call

-- the first fault of these bytes lies within the bytes or at their end, and at most 8 levels deep
pub first_within : (b : List ℕ) (e : Fault) → IsFirstOfVolume b e → (e.place.offset ≤ length b) × (e.place.depth ≤ depth_limit)
first_within b e first = omega (arith, volume_by depth_limit (section_lies depth_limit) e outermost b first)

-- a returned fault lies there too, because the fault is the first fault of the bytes or out of memory
pub refused_within : (b : List ℕ) (e : Fault) → (e ≢ out_of_memory → IsFirstOfVolume b e)
    → (e.place.offset ≤ length b) × (e.place.depth ≤ depth_limit)
refused_within b e first = elim (want_known e) [ inl want ↦ rw want (omega arith) | inr other ↦ first_within b e (first other) ]
