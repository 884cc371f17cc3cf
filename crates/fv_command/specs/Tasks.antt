-- The text and the status of each task over one input, and the faults that stop a task.
use Rattle.std.specs.Prelude.{◌≡◌, ◌≤◌, ◌↔◌, ℕ, Bool, true, List, ◌++◌, drop, length, ◌⊎◌, false}
use Rattle.std.specs.List.{flat_map}
use Rattle.fv_base.specs.Words.{out_of_memory, volume_limit}
use Rattle.fv_base.specs.declared.flash.Polarity.{Polarity}
use Rattle.fv_base.specs.declared.fault.Fault.{Fault}
use Rattle.fv_canon.specs.Words.{IsImage, NodeDigest, NormalisesTo, Unfit, Rejects, NormalisesAll, RejectsAll, IsAboveLimit}
use Rattle.fv_canon.specs.Words.{ChecksImage}
use Rattle.fv_canon.specs.declared.image_check.VolumeCheck.{VolumeCheck}
use Rattle.fv_extract.specs.Words.{ExtractionText, IsPart, OpenedPartText, StopsOpenedPart, StopsPart}
use Rattle.fv_extract.specs.declared.extracting.Extraction.{Extraction}
use Rattle.fv_extract.specs.declared.opened_search.Search.{Search}
use Rattle.fv_extract.specs.declared.outcome.Outcome.{Outcome}
use Rattle.fv_file.specs.Words.{CellForm, Tiles}
use Rattle.fv_head.specs.Words.{BeginsVolume}
use Rattle.fv_head.specs.declared.extent.Extent.{Extent}
use Rattle.fv_tree.specs.Words.{Accepted, Meaning, files_of, head_of, NotRead, file_named}
use Rattle.fv_tree.specs.Words.{MemoryRanOut, NotTiled, NotUnfixed, UnfixesTo}
use Rattle.fv_lines.specs.Words.{AreNotes, depex_lines, depexes_in, pad_notes, verdict_line, RowsText, ListText}
use Rattle.fv_rows.specs.Words.{tree_rows}
use Rattle.fv_lines.specs.Words.{CellsText, volume_line}
use Rattle.fv_lines.specs.declared.depex_notes.DepexNote.{DepexNote}
use Rattle.fv_opened.specs.Words.{OpenedListText}
use Rattle.fv_flash.specs.Words.{AreFound, IsPlace}
use Rattle.fv_flash.specs.declared.scanner.FoundVolume.{FoundVolume}
use Rattle.fv_text.specs.Words.{ShowsBytes}
use Rattle.fv_command.specs.RunInputs.{BeginsWith, BeginsNone}
use Rattle.fv_command.specs.ImageChecks.{checked_line, checks_status}
use Rattle.fv_command.specs.PartLines.{opened_status, part_line, part_status, search_line, search_status}
use Rattle.fv_command.specs.SurveyRuns.{OpenedSurveyText, SurveyRunText}
use Rattle.fv_command.specs.declared.status.Status.{Status}
use Rattle.fv_command.specs.declared.status.Status.TheVariants.{Done, Different}
use Rattle.fv_plan.specs.declared.plan.Task.{Task}
use Rattle.fv_plan.specs.declared.plan.Task.TheVariants.{Normalise, NormaliseAll, List as Listing, ListSums, ListOpened}
use Rattle.fv_plan.specs.declared.plan.Task.TheVariants.{Extract, ExtractOpened, Check, CheckAll, Cells, Unfix, Scan, Survey, SurveyOpened}

-- a volume with this meaning has these cells and this erase polarity; the cells tile its body, from the offset where
-- the first file may begin
pub record AreCells (m : Meaning) (b : List ℕ) (polarity : Polarity) (cells : List CellForm) : Type 0 where
  pub extent : Extent
  pub begins : BeginsVolume (head_of m) extent b
  pub polarity_is : polarity ≡ extent.polarity
  pub tiles : Tiles extent.file_system polarity extent.first cells (drop extent.first b)

-- the input is a volume, and the text is the output of `check`: a line for each pad whose data bytes are not all
-- erased, a line for each rejected dependency expression, and a last line. The last line says whether the input is the
-- canonical image of its meaning
pub record CheckText (input : List ℕ) (same : Bool) (text : List ℕ) : Type 0 where
  pub meaning : Meaning
  pub accepted : Accepted input meaning
  pub polarity : Polarity
  pub cells : List CellForm
  pub are_cells : AreCells meaning input polarity cells
  pub notes : List DepexNote
  pub are_notes : AreNotes (depexes_in (files_of meaning)) notes
  pub text_is : text ≡ pad_notes polarity cells ++ (depex_lines notes ++ verdict_line same)
  pub same_is : (same ≡ true) ↔ IsImage meaning input

-- the text and the status of a task for its input. A task has no text with any other status:
-- - `Normalise`: the canonical image of the input, which is a volume
-- - `NormaliseAll`: the input, with each volume in it replaced by its canonical image
-- - `Listing`, `ListSums`: the lines of the volume with which the input begins, without or with digests
-- - `ListOpened`: the lines of that volume through its packed sections. The status is Incomplete if memory ran out there
-- - `Extract`: the bytes of the part of that volume, or a line which says that the part does not exist
-- - `ExtractOpened`: the bytes of the part of the first volume that has its file, among that volume and the volumes in it
--   and in its packed sections; or a line which says that the part does not exist, or that no volume has the file. The
--   status is Incomplete if memory ran out in a packed section before that
-- - `Check`: the notes and the verdict
-- - `CheckAll`: a line for each volume that is found in the input, in order; the worst of these checks determines the
--   status
-- - `Cells`: the lines of the cells of the volume with which the input begins
-- - `Unfix`: the input, which is a volume, with none of its files marked as fixed
-- - `Scan`: the lines of the volumes in the input
-- - `Survey`: what each byte of the input is. The status is Incomplete if memory ran out after the lines of the first
--   rows
-- - `SurveyOpened`: the same, and what each byte of the contents of its packed sections is, at every level. The status is
--   Incomplete if memory ran out after the first lines
abbrev pub TaskText : Task → Bool → List ℕ → Status → List ℕ → Type 0
TaskText Normalise hex input Done text = (image : List ℕ) × NormalisesTo input image × ShowsBytes hex image text
TaskText NormaliseAll hex input Done text = (image : List ℕ) × NormalisesAll input image × ShowsBytes hex image text
TaskText Listing hex input Done text = (m : Meaning) × BeginsWith input m × ListText m text
TaskText ListSums hex input Done text = (m : Meaning) × BeginsWith input m × RowsText NodeDigest (tree_rows m) text
TaskText ListOpened hex input status text =
    (m : Meaning) × (ran_out : Bool) × BeginsWith input m × OpenedListText m ran_out text
    × (status ≡ opened_status ran_out Done)
TaskText (Extract part) hex input status text =
    (m : Meaning) × (x : Extraction) × (outcome : Outcome) × (bytes : List ℕ) × BeginsWith input m
    × IsPart (file_named part.name (files_of m)) part.section part.instance x × ExtractionText hex x outcome bytes
    × (status ≡ part_status outcome) × (text ≡ bytes ++ part_line outcome)
TaskText (ExtractOpened part) hex input status text =
    (m : Meaning) × (search : Search) × (bytes : List ℕ) × BeginsWith input m × OpenedPartText m part hex search bytes
    × (status ≡ search_status search) × (text ≡ bytes ++ search_line search)
TaskText Check hex input Done text = CheckText input true text
TaskText Check hex input Different text = CheckText input false text
TaskText CheckAll hex input status text =
    (checks : List VolumeCheck) × ChecksImage input checks × (status ≡ checks_status checks)
    × (text ≡ flat_map checked_line checks)
TaskText Cells hex input Done text = CellsText input text
TaskText Unfix hex input Done text = (o : List ℕ) × UnfixesTo input o × ShowsBytes hex o text
TaskText Scan hex input Done text = (volumes : List FoundVolume) × AreFound input volumes × (text ≡ flat_map volume_line volumes)
TaskText Survey hex input status text = SurveyRunText input status text
TaskText SurveyOpened hex input status text = OpenedSurveyText input status text
TaskText task hex input status text = ⊥

-- memory ran out, which can happen only if a volume begins in the input, at a multiple of 8
abbrev pub MemoryRanOutInImage : List ℕ → Fault → Type 0
MemoryRanOutInImage input fault = (fault ≡ out_of_memory) × ((place : ℕ) × IsPlace input place)

-- memory ran out, which can happen only if the input is a volume from which `unfix` can take the marks away
abbrev pub MemoryRanOutForCopy : List ℕ → Fault → Type 0
MemoryRanOutForCopy input fault = (fault ≡ out_of_memory) × ((o : List ℕ) × UnfixesTo input o)

-- why a task writes nothing for its input. Memory ran out, or this is the reason:
-- - `Normalise`: the input is not a volume, or does not fit
-- - `NormaliseAll`: a volume in the input is not accepted or does not fit, or the input is longer than the limit
-- - `Listing`, `ListOpened`: the input does not begin with a volume
-- - `ListSums`: the input does not begin with a volume, or the volume does not fit
-- - `Extract`: the input does not begin with a volume, or a volume in the part does not fit
-- - `ExtractOpened`: the input does not begin with a volume, or the file was found but the part cannot be extracted
-- - `Check`: the input is not a volume
-- - `CheckAll`: the input is longer than the limit
-- - `Cells`: the input does not begin with a volume whose body is tiled by cells
-- - `Unfix`: the input does not begin with a volume whose body is tiled by cells when no file is marked as fixed, or
--   bytes follow the volume
-- - `Scan`: no other reason
-- - `Survey`, `SurveyOpened`: none, because an input of any bytes has a survey
-- Memory can run out only if the input begins with a volume header. Three tasks look for volumes in the input
-- (`NormaliseAll`, `CheckAll`, `Scan`): there memory can run out only if a volume begins in the input and, in the first
-- two, the input is not longer than the limit. In `Unfix` it can run out only if the input is a volume from which the
-- marks can be taken away
abbrev pub TaskRefusal : Task → List ℕ → Fault → Type 0
TaskRefusal Normalise input fault = MemoryRanOut input fault ⊎ Rejects input fault
TaskRefusal NormaliseAll input fault =
    (MemoryRanOutInImage input fault × (length input ≤ volume_limit)) ⊎ RejectsAll input fault
TaskRefusal Listing input fault = MemoryRanOut input fault ⊎ BeginsNone input fault
TaskRefusal ListSums input fault =
    MemoryRanOut input fault
    ⊎ (BeginsNone input fault ⊎ ((m : Meaning) × BeginsWith input m × Unfit m 0 fault))
TaskRefusal ListOpened input fault = MemoryRanOut input fault ⊎ BeginsNone input fault
TaskRefusal (Extract part) input fault =
    MemoryRanOut input fault ⊎ (BeginsNone input fault
    ⊎ ((m : Meaning) × BeginsWith input m × StopsPart (file_named part.name (files_of m)) part.section part.instance fault))
TaskRefusal (ExtractOpened part) input fault =
    MemoryRanOut input fault ⊎ (BeginsNone input fault
    ⊎ ((m : Meaning) × BeginsWith input m × StopsOpenedPart m part fault))
TaskRefusal Check input fault = MemoryRanOut input fault ⊎ NotRead input fault
TaskRefusal CheckAll input fault =
    (MemoryRanOutInImage input fault × (length input ≤ volume_limit)) ⊎ IsAboveLimit input fault
TaskRefusal Cells input fault = MemoryRanOut input fault ⊎ NotTiled input fault
TaskRefusal Unfix input fault = MemoryRanOutForCopy input fault ⊎ NotUnfixed input fault
TaskRefusal Scan input fault = MemoryRanOutInImage input fault
TaskRefusal Survey input fault = ⊥
TaskRefusal SurveyOpened input fault = ⊥
