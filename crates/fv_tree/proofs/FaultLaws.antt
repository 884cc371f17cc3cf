-- If bytes have a first fault, the condition of this fault holds at the fault's place.
use Rattle.std.proofs.Common.{ℕ, zero, suc, List, take, drop, inl, inr}
use Rattle.fv_base.proofs.Laws.{First, Any, depth_limit, any_fails}
use Rattle.fv_base.specs.declared.fault.Fault.{Fault}
use Rattle.fv_base.specs.declared.fault.Place.{Place}
use Rattle.fv_file.proofs.Laws.{cell_fails}
use Rattle.fv_head.specs.declared.extent.Extent.{Extent}
use Rattle.fv_section.proofs.Laws.{frame_fails}
use Rattle.fv_section.specs.Words.{FrameForm}
use Rattle.fv_tree.specs.Words.{StoredFault, outermost, InSection, InStream, InVolume, IsFirstOfVolume, FaultHolds}

-- the condition of a first fault of a cell of a body, or of the files in the cells, holds
stored_stands : (x : Extent) (volume : List ℕ) (f : Fault) → StoredFault First x volume f → StoredFault Any x volume f
stored_stands x volume f (inl first) = inl (cell_fails x.file_system x.polarity x.first (drop x.first volume) f first)
stored_stands x volume f (inr (cells, tiles, inl (y, (before, after, cut, none, has), is))) =
    inr (cells, tiles, inl (y, (before, after, cut, tt, has), is))
stored_stands x volume f (inr (cells, tiles, inr (none, y, top, is))) = inr (cells, tiles, inr (tt, y, top, is))

-- ---- a stream and a volume, given the same of their sections

-- at one level of nesting: if a section has a first fault, the fault's condition holds in the section
abbrev SectionStands : ℕ → Type 0
SectionStands n = (e : Fault) (f : FrameForm) (at : Place) → InSection First n e f at → InSection Any n e f at

stream_by : (n : ℕ) → SectionStands n → (e : Fault) (b : List ℕ) (at : Place) → InStream First n e b at → InStream Any n e b at
stream_by n stands e b at (inl (f, first, is)) = inl (f, frame_fails b f first, is)
stream_by n stands e b at (inr (frames, tail, split, (before, f, after, cut, read, first))) =
    inr (frames, tail, split, (before, f, after, cut, tt, stands e f at first))

volume_by : (n : ℕ) → SectionStands n → (e : Fault) (b : List ℕ) (at : Place) → InVolume First n e b at → InVolume Any n e b at
volume_by n stands e b at (inl (f, first, is)) = inl (f, any_fails _ f first, is)
volume_by n stands e b at (inr (h, x, front, inl (f, first, is))) = inr (h, x, front, inl (f, stored_stands x (take x.length b) f first, is))
volume_by n stands e b at (inr (h, x, front, inr (cells, tiles, right, (before, f, after, cut, read, (holds, first))))) =
    inr (h, x, front, inr (cells, tiles, tt, (before, f, after, cut, tt, (holds, stream_by n stands e f.payload _ first))))

-- ---- the recursion

section_stands : (n : ℕ) → SectionStands n
section_stands zero e f at first = first
section_stands (suc n) e f at (inl (group, first)) = inl (group, stream_by n (section_stands n) e f.body _ first)
section_stands (suc n) e f at (inr (kind, opens, first)) = inr (kind, opens, volume_by n (section_stands n) e f.body _ first)

-- if bytes have a first fault, the condition of this fault holds in the bytes
pub fault_stands : (b : List ℕ) (e : Fault) → IsFirstOfVolume b e → FaultHolds b e
fault_stands b e first = volume_by depth_limit (section_stands depth_limit) e b outermost first

-- the same of a stream
pub stream_stands : (b : List ℕ) (e : Fault) → InStream First depth_limit e b outermost → InStream Any depth_limit e b outermost
stream_stands b e first = stream_by depth_limit (section_stands depth_limit) e b outermost first
