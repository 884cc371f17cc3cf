-- A part with a fault is not read. This is true of a first fault and of any fault whose condition holds. The steps:
-- 1. If no section with a fault is read, then bytes with a fault are not a stream (`stream_by`).
-- 2. A body with a fault of a cell, or of the files in the cells, has no files (`stored_by`, `files_refused`).
-- 3. If bytes with a fault are not a stream, then a file with a fault is not read (`file_by`), and bytes with a fault
--    do not begin with a volume (`volume_by`).
-- 4. By induction on the nesting depth no section with a fault is read (`section_refuses`), so no stream and no volume
--    with a fault is read (`stream_refuses`, `fault_refuses`).
use Rattle.std.proofs.Common.{◌≤◌, ℕ, zero, suc, List, length, take, drop, inl, inr, arith, take_all}
use Rattle.fv_base.proofs.Laws.{Which, none_fails}
use Rattle.fv_base.specs.declared.fault.Fault.{Fault}
use Rattle.fv_base.specs.declared.fault.Place.{Place}
use Rattle.fv_file.specs.Words.{CellForm, Tiles}
use Rattle.fv_file.proofs.Laws.{only_one}
use Rattle.fv_head.specs.Words.{head_checks}
use Rattle.fv_head.specs.declared.extent.Extent.{Extent}
use Rattle.fv_head.proofs.Laws.{front_holds}
use Rattle.fv_section.specs.Words.{FrameForm}
use Rattle.fv_section.proofs.Laws.{one_split}
use Rattle.fv_tree.specs.Words.{AreFilesOf, MeansFile, MeansSection, Stream, Denotes, FileFault, StoredFault, Moved, InSection, InStream, InVolume}
use Rattle.fv_tree.specs.Words.{data_at, Meaning, FileMeaning, SectionMeaning, files_of, head_of, FileForm, NoStoredTwins, TopAtEnd, files_in, current_in}
use Rattle.fv_tree.proofs.ListPairs.{one_of_none}
use Rattle.fv_tree.proofs.NamesFaultLaws.{names_wrong}
use Rattle.fv_tree.proofs.SectionShapeLaws.{group_only, opened_only, stream_bad}
use Rattle.fv_tree.proofs.VolumePartLaws.{front_of, has_files}
use Rattle.fv_file.proofs.Laws as cellular
use Rattle.fv_section.proofs.Laws as framed

module _ (which : Which) where
  -- ---- a stream and a volume, given the same of their sections

  -- at one level of nesting, a frame with a fault is not a section
  abbrev pub SectionRefuses : ℕ → Type 0
  SectionRefuses n = (e : Fault) (f : FrameForm) (at : Place) (s : SectionMeaning) → InSection which n e f at → MeansSection n f s → ⊥

  -- at one level of nesting, bytes with a fault are not a stream
  abbrev pub StreamRefuses : ℕ → Type 0
  StreamRefuses n = (e : Fault) (b : List ℕ) (at : Place) (ss : List SectionMeaning) (t : ℕ) → InStream which n e b at → Stream n ss t b → ⊥

  stream_by : (n : ℕ) → SectionRefuses n → StreamRefuses n
  stream_by n rejected e b at ss t (inl (f, bad, is)) (frames, split, pairs) = framed.none_after which b f frames t bad split
  stream_by n rejected e b at ss t (inr (frames, tail, split, bad)) (others, split', pairs) =
      one_of_none which (MeansSection n) (λ f. InSection which n e f at) frames ss (λ f s. rejected e f at s) bad
      (rw (one_split 0 others frames t tail b split' split).0 at pairs)

  -- if a body has a fault of a cell or of the files in the cells, and cells tile the body, then some of the files in
  -- the cells are twins, or a volume top file is not at the end
  pub stored_by : (x : Extent) (volume : List ℕ) (f : Fault) (cells : List CellForm) → StoredFault which x volume f
      → Tiles x.file_system x.polarity x.first cells (drop x.first volume)
      → NoStoredTwins (files_in cells) × TopAtEnd x.length (current_in (files_in cells)) → ⊥
  stored_by x volume f cells (inl bad) tiles right =
      cellular.none_after which x.file_system x.polarity x.first (drop x.first volume) f cells bad tiles
  stored_by x volume f cells (inr (others, tiles', names)) tiles right =
      names_wrong which x.length (files_in cells) f (rw (only_one x.file_system x.polarity x.first _ cells others tiles tiles') at names) right

  -- so no files are the files of this body, also if the fault is moved to the place where the volume begins
  pub files_refused : (x : Extent) (volume : List ℕ) (at : Place) (e : Fault) (files : List FileForm)
      → Moved at (StoredFault which x volume) e → AreFilesOf x volume files → ⊥
  files_refused x volume at e files (f, bad, is) stand =
      stored_by x volume f stand.cells bad stand.tiles (stand.current.no_twins, rw stand.current.files_are at stand.current.top)

  module _ (n : ℕ) (rejected : StreamRefuses n) where
    -- a file with a fault is not read
    pub file_by : (e : Fault) (at : Place) (f : FileForm) (m : FileMeaning) → FileFault (InStream which n) e f at → MeansFile (Stream n) f m
        → ⊥
    file_by e at f m (holds, inside) is = stream_bad n f holds (λ us u s. rejected e f.payload (data_at at f) us u inside s) m is

    -- bytes with a fault do not begin with a volume
    volume_by : (e : Fault) (b : List ℕ) (at : Place) (k : ℕ) (m : Meaning) → k ≤ length b → InVolume which n e b at
        → Denotes n (take k b) m → ⊥
    volume_by e b at k m within (inl (f, bad, is)) d =
        none_fails which (head_checks b) f bad (front_holds b (head_of m) d.extent (front_of n k b m within d).0)
    volume_by e b at k m within (inr (h, x, front, inl moved)) d =
        let (files, stand, pairs) = (has_files n k b m h x front within d).2 in files_refused x (take x.length b) at e files moved stand
    volume_by e b at k m within (inr (h, x, front, inr (cells, tiles, right, bad))) d =
        let (files, stand, pairs) = (has_files n k b m h x front within d).2 in
        let same = only_one x.file_system x.polarity x.first _ cells stand.cells tiles stand.tiles in
        one_of_none which (MeansFile (Stream n)) (λ f. FileFault (InStream which n) e f at) (current_in (files_in cells)) (files_of m)
        (file_by e at) bad (rw (stand.current.files_are, same) at pairs)

  -- ---- the recursion

  -- at every level, a section with a fault is not read
  pub section_refuses : (n : ℕ) → SectionRefuses n
  section_refuses zero e f at s (inl group, is) h = group_only (λ _ _ _. ⊥) (λ _ _. ⊥) f group (λ us u r. r) s h
  section_refuses zero e f at s (inr (kind, opens), is) h =
      opened_only (λ _ _ _. ⊥) (λ _ _. ⊥) f (record { kind = kind; opens = opens }) (λ v r. r) s h
  section_refuses (suc n) e f at s (inl (group, bad)) h =
      group_only (Stream n) (Denotes n) f group (λ us u r. stream_by n (section_refuses n) e f.body _ us u bad r) s h
  section_refuses (suc n) e f at s (inr (kind, opens, bad)) h =
      opened_only (Stream n) (Denotes n) f (record { kind = kind; opens = opens }) (λ v d. volume_by n (stream_by n (section_refuses n)) e f.body _
      (length f.body) v (omega arith) bad (rw (take_all (length f.body) f.body (omega arith)) d)) s h

  -- at every level, bytes with a fault are not a stream
  pub stream_refuses : (n : ℕ) → StreamRefuses n
  stream_refuses n = stream_by n (section_refuses n)

  -- at every level, bytes with a fault do not begin with a volume
  pub fault_refuses : (n k : ℕ) (e : Fault) (b : List ℕ) (at : Place) (m : Meaning) → k ≤ length b → InVolume which n e b at
      → Denotes n (take k b) m → ⊥
  fault_refuses n k e b at m within bad d = volume_by n (stream_refuses n) e b at k m within bad d
