-- Volumes and streams of sections that are read without findings, to each depth (docs/FORMAT.md, "A tolerant reading";
-- PI specification, volume 3, section 3.2). A volume that is found by its signature, and the data of a superseded
-- file, which the strict reading leaves out, may have any findings.
use Rattle.std.specs.Prelude.{◌≡◌, ◌≤◌, ◌<◌, ◌-◌, ℕ, zero, suc, ◌&&◌, not, Bool, true, false, List, [], ◌∷◌, drop, length}
use Rattle.std.specs.List.{list_any}
use Rattle.fv_base.specs.Words.{IsBytes, field}
use Rattle.fv_head.specs.Words.{volume_len_at}
use Rattle.fv_names.specs.Words.{NamedFile, replaced_by}
use Rattle.fv_tree.specs.Words.{Denotes, Meaning, holds_sections}
use Rattle.fv_survey.specs.Bodies.{cells_by, layout_of}
use Rattle.fv_survey.specs.FindingSets.{none}
use Rattle.fv_survey.specs.Forests.{Forest, Bare, Tree}
use Rattle.fv_survey.specs.NameRules.{body_files, name_findings, named_file}
use Rattle.fv_survey.specs.PieceRules.{piece_by}
use Rattle.fv_survey.specs.Portions.{PortionForm}
use Rattle.fv_survey.specs.Reading.{after_first, body_at, inside_first, kind_at, next_at}
use Rattle.fv_survey.specs.SectionRules.{begins_section, body_form, place_findings}
use Rattle.fv_survey.specs.VolumeRules.{parts_by}
use Rattle.fv_survey.specs.declared.names.BodyFile.{BodyFile}
use Rattle.fv_survey.specs.declared.pieces.Layout.{Layout}
use Rattle.fv_survey.specs.declared.pieces.Piece.{Piece}
use Rattle.fv_survey.specs.declared.pieces.Sort.{Sort}
use Rattle.fv_survey.specs.declared.pieces.Sort.TheVariants as sorts
use Rattle.fv_survey.specs.declared.portion.Reading.{Reading}
use Rattle.fv_survey.specs.declared.portion.Reading.TheVariants as readings
use Rattle.fv_survey.specs.declared.row.Row.{Row}
use Rattle.fv_survey.specs.declared.row.RowKind.TheVariants as kinds
use Rattle.fv_survey.specs.declared.section_step.BodyForm.{BodyForm}
use Rattle.fv_survey.specs.declared.section_step.BodyForm.TheVariants as forms
use Rattle.fv_survey.specs.declared.systems.Files.TheVariants as files

-- ---- given what is read without findings inside

-- a property of bytes
abbrev pub Clean : Type 1
Clean = List ℕ → Type 0

-- the body b of a section, which is read in this form, has no findings: a group is a stream without findings, and an
-- opened volume is a volume without findings
abbrev pub CleanBody : Clean → Clean → BodyForm → Clean
CleanBody stream volume forms.Group b = stream b
CleanBody stream volume forms.Volume b = volume b
CleanBody stream volume _ b = Unit {0}

-- the first n sections of b, their bodies and what is between them have no findings
abbrev pub CleanStream : (BodyForm → Clean) → ℕ → Clean
CleanStream body zero b = Unit {0}
CleanStream body (suc n) b =
    0 < length b → (begins_section b ≡ true) × (place_findings (next_at b) (length b) ≡ none)
    × body (body_form (kind_at b) (body_at b)) (body_at b) × CleanStream body n (drop (next_at b) b)

-- a piece as a file with a name
abbrev pub named_piece : Piece → NamedFile
named_piece piece = record { name = piece.name; marked = piece.is_marked }

-- a piece of this sort is a file
abbrev pub is_file : Sort → Bool
is_file sorts.File = true
is_file _ = false

-- the piece is a file of a type that holds sections, and is not superseded by one of these files
abbrev pub is_opened_file : List BodyFile → Piece → Bool
is_opened_file fs piece =
    is_file piece.sort && holds_sections piece.code
    && not (list_any (λ (g : BodyFile). replaced_by (named_piece piece) (named_file g)) fs)

-- the data of the piece at the start of r
abbrev pub piece_data : Piece → List ℕ → List ℕ
piece_data piece r = field piece.header (piece.size - piece.header) r

-- the first n pieces of r have no findings, and neither have the data of the files among them that are opened
abbrev pub CleanPieces : Clean → Layout → List BodyFile → ℕ → Clean
CleanPieces stream layout fs zero r = Unit {0}
CleanPieces stream layout fs (suc n) r =
    0 < length r → ((piece_by layout r).findings ≡ none)
    × (is_opened_file fs (piece_by layout r) ≡ true → stream (piece_data (piece_by layout r) r))
    × CleanPieces stream layout fs n (drop (piece_by layout r).span r)

-- b is a volume of FvLength bytes that is not a variable store, and its header, its names, its cells and its files
-- have no findings
pub record CleanVolume (stream : Clean) (b : List ℕ) : Type 0 where
  pub least : 56 ≤ length b
  pub whole : volume_len_at b ≡ length b
  pub filed : (parts_by b).files ≡ files.Store → ⊥
  pub header : (parts_by b).findings ≡ none
  pub names : name_findings (parts_by b) b ≡ none
  pub pieces : (let cells : List ℕ = cells_by (parts_by b).files (parts_by b).first b in
      CleanPieces stream (layout_of (parts_by b)) (body_files (parts_by b) b) (length cells) cells)

-- ---- the recursion

-- the body of a section has no findings, if groups and opened volumes, including the body itself, may nest n deep. If
-- n is 0, a group and a volume have findings, since they lie too deep
abbrev pub CleanAt : ℕ → BodyForm → Clean
CleanAt zero = CleanBody (λ _. ⊥) (λ _. ⊥)
CleanAt (suc n) =
    CleanBody (λ b. CleanStream (CleanAt n) (length b) b) (λ b. CleanVolume (λ c. CleanStream (CleanAt n) (length c) c) b)

-- a stream of sections without findings, and a volume without findings, in which groups and opened volumes may nest n
-- deep
abbrev pub IsCleanStream : ℕ → Clean
IsCleanStream n b = CleanStream (CleanAt n) (length b) b

abbrev pub IsCleanVolume : ℕ → Clean
IsCleanVolume n b = CleanVolume (IsCleanStream n) b

-- ---- rows

-- the files of the volume that the rows in the first row of a portion belong to, if the portion belongs to a volume
-- with these files
abbrev pub files_as : Reading → List BodyFile → PortionForm → List BodyFile
files_as readings.Volume fs p = body_files (parts_by p.bytes) p.bytes
files_as _ fs p = fs

-- the first row of the portion is a file that is superseded by one of these files
abbrev pub superseded_as : Reading → List BodyFile → PortionForm → Bool
superseded_as (readings.Cells layout) fs p =
    list_any (λ (g : BodyFile). replaced_by (named_piece (piece_by layout p.bytes)) (named_file g)) fs
superseded_as _ fs p = false

-- the forest is the reading of these portions (`Reads`), which belong to a volume with the files fs. No row has
-- findings, apart from volumes that were found, the rows in them, and the rows in superseded files
abbrev pub NoFindings : List BodyFile → Forest → List PortionForm → Type 0
NoFindings fs Bare ps = Unit {0}
NoFindings fs (Tree row below after) [] = Unit {0}
NoFindings fs (Tree row below after) (p ∷ ps) =
    (row.found ≡ false → (row.findings ≡ none)
    × (superseded_as p.reading fs p ≡ false → NoFindings (files_as p.reading fs p) below (inside_first p [])))
    × NoFindings fs after (after_first p ps)

-- ---- agreement

-- the portion is a volume of FvLength bytes that is not a variable store, in which groups and opened volumes may nest
-- n deep
pub record IsVolumePortion (n : ℕ) (p : PortionForm) : Type 0 where
  pub reading : p.reading ≡ readings.Volume
  pub levels : p.nest.levels ≡ n
  pub found : 0 < p.nest.found
  pub bytes : IsBytes p.bytes
  pub least : 56 ≤ length p.bytes
  pub whole : volume_len_at p.bytes ≡ length p.bytes
  pub filed : (parts_by p.bytes).files ≡ files.Store → ⊥

-- the readings of a volume agree: no row of the tolerant reading, which is this forest, has findings exactly if the
-- strict reading gives the volume a meaning. Volumes that were found, and superseded files, may have findings
abbrev pub Agree : ℕ → PortionForm → Forest → Type 0
Agree n p f =
    (NoFindings [] f (p ∷ []) → (m : Meaning) × Denotes n p.bytes m)
    × ((m : Meaning) → Denotes n p.bytes m → NoFindings [] f (p ∷ []))

-- an image that is all one volume, as the portion that is found at its start
abbrev pub image_volume : List ℕ → PortionForm
image_volume b =
    record { reading = readings.Volume; nest = record { depth = 0; levels = 8; found = 7 }; at = 0; bytes = b }

-- the survey of the image b, which is this forest, is one volume that was found, with all bytes of the image. Neither
-- its row nor the rows in it have findings, apart from volumes that were found in it, and superseded files
pub record IsCleanImage (b : List ℕ) (f : Forest) : Type 0 where
  pub row : Row
  pub below : Forest
  pub one : f ≡ Tree row below Bare
  pub kind : row.kind ≡ kinds.Volume
  pub found : row.found ≡ true
  pub size : row.length ≡ length b
  pub clean : row.findings ≡ none
  pub inner : NoFindings (body_files (parts_by b) b) below (inside_first (image_volume b) [])
