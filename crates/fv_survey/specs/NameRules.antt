-- The names of the files of a volume (rule 8 of the tolerant reading in docs/FORMAT.md; PI specification, volume 3,
-- sections 3.2.1.3, 3.2.2 and 3.2.3). Duplicate names and a misplaced volume top file are findings of the volume,
-- whatever other findings it has. VolumeFiles of fv_tree states the same two rules of the files of a volume that is
-- read strictly.
use Rattle.std.specs.Prelude.{ℕ, zero, suc, ◌+◌, ◌==◌, ◌&&◌, ◌||◌, not, Bool, false, if◌then◌else◌, List, [], ◌∷◌, ◌++◌, length, drop, map}
use Rattle.std.specs.List.{filter, list_any}
use Rattle.std.specs.Str.{bytes_eq}
use Rattle.fv_base.specs.Words.{bytes_of}
use Rattle.fv_base.specs.declared.fault.FaultKind.TheVariants as faults
use Rattle.fv_names.specs.Words.{NamedFile, is_twin, replaced_by}
use Rattle.fv_survey.specs.declared.findings.Findings.{Findings}
use Rattle.fv_survey.specs.declared.names.BodyFile.{BodyFile}
use Rattle.fv_survey.specs.declared.parts.Parts.{Parts}
use Rattle.fv_survey.specs.declared.pieces.Layout.{Layout}
use Rattle.fv_survey.specs.declared.pieces.Piece.{Piece}
use Rattle.fv_survey.specs.declared.pieces.Sort.{Sort}
use Rattle.fv_survey.specs.declared.pieces.Sort.TheVariants as sorts
use Rattle.fv_survey.specs.Bodies.{cells_by, layout_of}
use Rattle.fv_survey.specs.FindingSets.{none, with_if}
use Rattle.fv_survey.specs.PieceRules.{piece_by}
use Rattle.fv_tree.specs.Words.{top_name}

-- ---- the files

-- the file that a piece is, if its sort is File. The piece lies at the offset `at` of a volume of `len` bytes. The file
-- is at the end if its last byte is the last byte of the volume
abbrev pub file_if : Sort → ℕ → ℕ → Piece → List BodyFile
file_if sorts.File len at piece =
    record { name = piece.name; is_marked = piece.is_marked; is_at_end = at + piece.size == len } ∷ []
file_if _ len at piece = []

-- the files among the first n pieces of r, in order. r are the cells from the offset `at` of a volume of `len` bytes on
abbrev pub files_among : Layout → ℕ → ℕ → ℕ → List ℕ → List BodyFile
files_among layout len zero at r = []
files_among layout len (suc n) at r =
    if length r == 0 then []
    else file_if (piece_by layout r).sort len at (piece_by layout r)
    ++ files_among layout len n (at + (piece_by layout r).span) (drop (piece_by layout r).span r)

-- the files of the volume b with these parts, in order: the files among all pieces of its cells. A piece has at least
-- one byte, so there are at most as many pieces as bytes
abbrev pub body_files : Parts → List ℕ → List BodyFile
body_files parts b =
    files_among (layout_of parts) (length b) (length (cells_by parts.files parts.first b)) parts.first
    (cells_by parts.files parts.first b)

-- ---- their names

-- the name of a file, and whether the file is marked for update
abbrev pub named_file : BodyFile → NamedFile
named_file f = record { name = f.name; marked = f.is_marked }

-- two of the files are twins: they have the same name, and both or neither is marked for update (`is_twin`)
abbrev pub has_twins : List NamedFile → Bool
has_twins [] = false
has_twins (f ∷ fs) = list_any (is_twin f) fs || has_twins fs

-- the files in order, except superseded files: marked files whose update is among them (`replaced_by`)
abbrev pub current_files : List BodyFile → List BodyFile
current_files fs = filter (λ f. not (list_any (λ g. replaced_by (named_file f) (named_file g)) fs)) fs

-- the file is a volume top file, by its name
abbrev pub is_top : BodyFile → Bool
is_top f = bytes_eq (bytes_of f.name) top_name

-- one of the files is a volume top file that is not the last of the files, or does not end where the volume ends
abbrev pub has_top_elsewhere : List BodyFile → Bool
has_top_elsewhere [] = false
has_top_elsewhere (f ∷ []) = is_top f && not f.is_at_end
has_top_elsewhere (f ∷ g ∷ fs) = is_top f || has_top_elsewhere (g ∷ fs)

-- ---- the findings

-- the findings of a volume with these files: DuplicateName if two of the files are twins, and TopFile if, among the
-- files that are not superseded, a volume top file is not at the end
abbrev pub files_findings : List BodyFile → Findings
files_findings fs =
    with_if (has_top_elsewhere (current_files fs)) faults.TopFile
    (with_if (has_twins (map named_file fs)) faults.DuplicateName none)

-- the findings of the names of the volume b with these parts
unfoldable pub name_findings : Parts → List ℕ → Findings
name_findings parts b = files_findings (body_files parts b)
