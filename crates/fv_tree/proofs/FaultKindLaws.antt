-- The faults of reading have one of the first 21 kinds. The steps:
-- 1. Each check of a cell that depends on the cell's state has a fault of one of these kinds (`state_kinds`). So each
--    fault of a cell, or of the files in the cells, has one of these kinds (`stored_kind`).
-- 2. If each fault in a section has one of these kinds, then so has each fault in a stream and in a volume
--    (`stream_kind`, `volume_kind`).
-- 3. By induction on the nesting depth each fault in a section has one of these kinds (`section_kind`), and so has each
--    fault of bytes (`stands_reading`).
use Rattle.std.proofs.Common.{arith, ◌≡◌, ◌≢◌, ℕ, ◌+◌, zero, suc, Bool, true, false, List, take, refl, sym, ap, ◌∙◌, inl, inr, nat_le}
use Rattle.fv_base.proofs.Laws.{Option, AllByRecursion, Any, First, fault_number, depth_limit, fails_among, up_is_not_down, common_steps}
use Rattle.fv_base.specs.declared.fault.Fault.{Fault}
use Rattle.fv_base.specs.declared.fault.FaultKind.{FaultKind}
use Rattle.fv_base.specs.declared.flash.FileSystem.{FileSystem}
use Rattle.fv_base.specs.declared.fault.Place.{Place}
use Rattle.fv_file.specs.Words.{state_checks}
use Rattle.fv_file.specs.declared.state.FileState.{FileState}
use Rattle.fv_head.specs.declared.extent.Extent.{Extent}
use Rattle.fv_base.specs.declared.fault.FaultKind.TheVariants as kinds
use Rattle.fv_section.specs.Words.{FrameFault, FrameForm}
use Rattle.fv_tree.specs.Words.{StoredFault, InSection, InStream, InVolume, FaultHolds, outermost}

-- the kinds of faults that are found in bytes: the first 21 kinds, which are not about memory, input and output, or
-- writing
abbrev pub is_reading : FaultKind → Bool
is_reading kind = nat_le (fault_number kind) 21

abbrev IsReading : Fault → Type 0
IsReading f = is_reading f.kind ≡ true

-- ---- the faults of the checks

-- the checks of a cell that depend on its state
state_kinds : (o : Option FileState) (s : FileSystem) (at : ℕ) (r : List ℕ) → AllByRecursion (λ c. IsReading c.fault) (state_checks o s at r)
state_kinds o s at r = grind (arith, common_steps) steps 150000

-- ---- a stream and a volume, given the same of their sections

-- a fault of a cell of a body, or of the files in the cells, has one of the first 21 kinds
stored_kind : (x : Extent) (volume : List ℕ) (f : Fault) → StoredFault Any x volume f → IsReading f
stored_kind x volume f (inl bad) = fails_among Any IsReading _ f (refl, state_kinds _ x.file_system (x.first + bad.at) _) bad.fails
stored_kind x volume f (inr (cells, tiles, inl (g, twin, is))) = rw is
stored_kind x volume f (inr (cells, tiles, inr (none, g, top, is))) = rw is

-- at one level of nesting, each fault in a section has one of the first 21 kinds
abbrev SectionKind : ℕ → Type 0
SectionKind n = (e : Fault) (f : FrameForm) (at : Place) → InSection Any n e f at → IsReading e

-- a stream, given the same of its sections
stream_kind : (n : ℕ) → SectionKind n → (e : Fault) (b : List ℕ) (at : Place) → InStream Any n e b at → IsReading e
stream_kind n inside e b at (inl (f, bad, is)) = rw is (fails_among Any IsReading _ f (refl, (refl, tt)) bad.fails)
stream_kind n inside e b at (inr (frames, tail, split, (before, f, after, is, read, here))) = inside e f at here

-- a volume, given the same of its sections
volume_kind : (n : ℕ) → SectionKind n → (e : Fault) (b : List ℕ) (at : Place) → InVolume Any n e b at → IsReading e
volume_kind n inside e b at (inl (f, bad, is)) =
    rw is (fails_among Any IsReading _ f (refl, (refl, (refl, (refl, (refl, (refl, (refl, (refl, (refl, (refl, (refl, tt))))))))))) bad)
volume_kind n inside e b at (inr (h, x, front, inl (f, bad, is))) = rw is (stored_kind x (take x.length b) f bad)
volume_kind n inside e b at (inr (h, x, front, inr (cells, tiles, right, (before, f, after, is, read, (holds, here))))) =
    stream_kind n inside e f.payload _ here

-- a section, at every level
section_kind : (n : ℕ) → SectionKind n
section_kind zero e f at (which, is) = rw is
section_kind (suc n) e f at (inl (group, bad)) = stream_kind n (section_kind n) e f.body _ bad
section_kind (suc n) e f at (inr (kind, opens, bad)) = volume_kind n (section_kind n) e f.body _ bad

-- ---- the faults of bytes

-- a fault whose condition holds in bytes is of a kind that is found in bytes
pub stands_reading : (b : List ℕ) (e : Fault) → FaultHolds b e → is_reading e.kind ≡ true
stands_reading b e stands = volume_kind depth_limit (section_kind depth_limit) e b outermost stands

-- a fault whose condition holds in bytes is not of any other kind
pub stands_other : (b : List ℕ) (e : Fault) (k : FaultKind) → is_reading k ≡ false → FaultHolds b e → e.kind ≢ k
stands_other b e k other stands same = up_is_not_down (is_reading k) (sym (ap is_reading same) ∙ stands_reading b e stands) other

-- a fault of a stream whose condition holds in bytes is of such a kind
pub stream_reading : (b : List ℕ) (e : Fault) → InStream Any depth_limit e b outermost → is_reading e.kind ≡ true
stream_reading b e stands = stream_kind depth_limit (section_kind depth_limit) e b outermost stands

-- the first fault of a section header is of such a kind, so it is not OutOfMemory
pub frame_known : (b : List ℕ) (f : Fault) → FrameFault First b f → f.kind ≢ kinds.OutOfMemory
frame_known b f bad same =
    up_is_not_down (is_reading kinds.OutOfMemory) (sym (ap is_reading same) ∙ fails_among First IsReading _ f (refl, (refl, tt)) bad.fails) refl
