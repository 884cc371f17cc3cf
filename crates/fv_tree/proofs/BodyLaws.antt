-- The files of a volume lie within the volume (`files_inside`) and are stored in its bytes (`files_stored`). The first
-- fault of the first file that is rejected is the first fault of the body (`files_first`).
use Rattle.std.proofs.Common.{◌≡◌, ◌≤◌, ◌<◌, ℕ, ◌+◌, ◌^◌, [], ◌∷◌, ◌++◌, List, length, drop, ap, ◌∙◌, arith, length-append, not}
use Rattle.fv_base.proofs.Laws.{AllByRecursion, length-drop, common_steps, list_any, First, volume_limit, IsBytes, all_filter, bytes_back, bytes_drop}
use Rattle.fv_base.proofs.Laws.{bytes_front}
use Rattle.fv_base.specs.declared.fault.Fault.{Fault}
use Rattle.fv_base.specs.declared.flash.FileSystem.{FileSystem}
use Rattle.fv_base.specs.declared.flash.Polarity.{Polarity}
use Rattle.fv_base.specs.declared.fault.Place.{Place}
use Rattle.fv_file.specs.Words.{CellForm, Valid, Tiles, CellsWithin}
use Rattle.fv_file.proofs.Laws.{all_within, cell_span}
use Rattle.fv_head.specs.declared.extent.Extent.{Extent}
use Rattle.fv_tree.specs.inner.ReadingParts.{IsReadyFile, AllStored}
use Rattle.fv_tree.specs.Words.{AreFilesOf, Stream, MeansFile, FileForm, files_in, AreCurrent, current_in, end_of, superseded_by, Faulty, FileFault}
use Rattle.fv_tree.specs.Words.{BodyFault, OneOf}

-- ---- a property of each file

-- a property of each file is a property of each current file
pub of_current : (P : FileForm → Type 0) (fs : List FileForm) → AllByRecursion P fs → AllByRecursion P (current_in fs)
of_current P fs = all_filter (λ f. not (list_any (superseded_by f) fs)) P fs

-- the file ends at most `end` bytes after the volume's start, and the lengths of its header and of its data add up to
-- its size
pub record LiesBy (end : ℕ) (f : FileForm) : Type 0 where
  pub ends : end_of f ≤ end
  pub agrees : f.head.header_len + length f.payload ≡ f.head.size

-- each file of cells that lie within the first `end` bytes meets `LiesBy end`
pub files_lie : (end : ℕ) (cs : List CellForm) → CellsWithin end cs → AllByRecursion (LiesBy end) (files_in cs)
files_lie end [] within = tt
files_lie end (Valid at head payload ∷ cs) (lies, agree, rest) = (record { ends = omega (arith, lies); agrees = agree }, files_lie end cs rest)
files_lie end (_ ∷ cs) (lies, agree, rest) = files_lie end cs rest

-- cells that tile the body of a volume lie within the volume
pub cells_inside : (e : Extent) (volume : List ℕ) (cs : List CellForm) → e.first ≤ length volume
    → Tiles e.file_system e.polarity e.first cs (drop e.first volume) → CellsWithin (length volume) cs
cells_inside e volume cs first tiles = grind (arith, common_steps, length-drop, all_within) steps 150000

-- so each file of a volume lies within the volume
pub files_inside : (e : Extent) (volume : List ℕ) (fs : List FileForm) → e.first ≤ length volume → AreFilesOf e volume fs
    → AllByRecursion (LiesBy (length volume)) fs
files_inside e volume fs first stand = grind (arith, common_steps, of_current, files_lie, cells_inside) steps 150000

-- ---- the meanings of the files

-- if a file is the first file that is rejected, its fault is the first fault of the body
pub files_first : (n : ℕ) (I : Faulty) (e : Extent) (volume : List ℕ) (at : Place) (fs : List FileForm) (g : Fault) → AreFilesOf e volume fs
    → OneOf First (MeansFile (Stream n)) (λ f. FileFault I g f at) fs → BodyFault First n I e g volume at
files_first n I e volume at fs g stand first = grind (arith, common_steps)

-- ---- the bytes of every file lie in some bytes

-- each file of cells that tile the bytes b is a ready file (`IsReadyFile`)
pub stored_in : (s : FileSystem) (p : Polarity) (at base end : ℕ) (cs : List CellForm) (b : List ℕ) → IsBytes b
    → length b ≤ volume_limit → base + end < 2 ^ 63 → Tiles s p at cs b → CellsWithin end cs → AllStored base (files_in cs)
stored_in s p at base end [] b small short fits tiles within = tt
stored_in s p at base end (Valid o head payload ∷ cs) b small short fits (x, rest, text, is, place, free, more) (ends, agrees, others) =
    let long = ap length text ∙ length-append x rest in
    let parts : IsBytes (x ++ rest) = rw text at small in (
      (
        (s, p, x, bytes_front x rest parts, omega (arith, long), is),
        omega (arith, ends, agrees),
        omega (arith, long, agrees, cell_span s p (Valid o head payload) x is),
      ),
      stored_in s p (at + length x) base end cs rest (bytes_back x rest parts) (omega (arith, long)) fits more others,
    )
stored_in s p at base end (_ ∷ cs) b small short fits (x, rest, text, is, place, free, more) (ends, agrees, others) =
    let long = ap length text ∙ length-append x rest in
    stored_in s p (at + length x) base end cs rest (bytes_back x rest (rw text at small)) (omega (arith, long)) fits more others

-- so each file of a volume is a ready file
pub files_stored : (e : Extent) (volume : List ℕ) (base : ℕ) (cs : List CellForm) (fs : List FileForm) → IsBytes volume
    → length volume ≤ volume_limit → base + length volume < 2 ^ 63
    → Tiles e.file_system e.polarity e.first cs (drop e.first volume) → CellsWithin (length volume) cs → AreCurrent e.length (files_in cs) fs
    → AllStored base fs
files_stored e volume base cs fs small short fits tiles within current =
    let short' : length (drop e.first volume) ≤ volume_limit = omega (arith, length-drop e.first volume, short) in
    rw current.files_are (of_current (IsReadyFile base) (files_in cs)
    (stored_in e.file_system e.polarity e.first base (length volume) cs _ (bytes_drop e.first volume small) short' fits tiles within))
