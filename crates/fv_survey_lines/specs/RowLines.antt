-- The line of a row of a survey: the kind of the row, where it lies, what it is, and its findings.
use Rattle.std.specs.Prelude.{ℕ, zero, suc, ◌+◌, ◌==◌, if◌then◌else◌, Bool, true, false, List, [], ◌++◌, codes, decimal}
use Rattle.std.specs.Int.{bit_at}
use Rattle.fv_base.specs.Words.{bytes_of, guid_text}
use Rattle.fv_text.specs.Words.{line_feed, two_digits}
use Rattle.fv_survey.specs.Words.{bits_of}
use Rattle.fv_survey.specs.declared.findings.Findings.{Findings}
use Rattle.fv_survey.specs.declared.row.Row.{Row}
use Rattle.fv_survey.specs.declared.row.RowKind.{RowKind}
use Rattle.fv_survey.specs.declared.row.RowKind.TheVariants as kinds

-- the word for a kind of rows
abbrev pub kind_word : RowKind → List ℕ
kind_word kinds.Volume = codes "volume"
kind_word kinds.File = codes "file"
kind_word kinds.Section = codes "section"
kind_word kinds.Lost = codes "lost"
kind_word kinds.VolumeHeader = codes "volume-header"
kind_word kinds.ExtHeader = codes "ext-header"
kind_word kinds.FileHeader = codes "file-header"
kind_word kinds.SectionHeader = codes "section-header"
kind_word kinds.Data = codes "data"
kind_word kinds.Body = codes "body"
kind_word kinds.Packed = codes "packed"
kind_word kinds.Pad = codes "pad"
kind_word kinds.PadData = codes "pad-data"
kind_word kinds.Dead = codes "deleted"
kind_word kinds.Stub = codes "unfinished"
kind_word kinds.Free = codes "free"
kind_word kinds.Filler = codes "filler"
kind_word kinds.Between = codes "between"
kind_word kinds.Gap = codes "gap"
kind_word kinds.Store = codes "store"
kind_word kinds.Unread = codes "unread"

-- the indentation of a line: two spaces for each row around the row
abbrev pub spaces : ℕ → List ℕ
spaces zero = []
spaces (suc k) = codes "  " ++ spaces k

-- the word for a volume that was found by its signature
abbrev pub found_text : Bool → List ℕ
found_text true = codes " found"
found_text false = []

-- the file system of a volume, and whether it was found by its signature; and the type of a file or a section
abbrev pub volume_text : Row → List ℕ
volume_text row = codes " system " ++ (guid_text (bytes_of row.name) ++ found_text row.found)

abbrev pub type_text : ℕ → List ℕ
type_text code = codes " type " ++ two_digits code

-- the name and the type of a file
abbrev pub file_text : Row → List ℕ
file_text row = codes " " ++ (guid_text (bytes_of row.name) ++ type_text row.code)

-- what a row of this kind is: only volumes, files and sections have more than a place
abbrev pub subject_text : RowKind → Row → List ℕ
subject_text kinds.Volume row = volume_text row
subject_text kinds.File row = file_text row
subject_text kinds.Section row = type_text row.code
subject_text _ row = []

-- the number n after this word, if its bit is set; and the word before the next number, which is a comma after a number
abbrev pub number_text : (word : List ℕ) → (n bits : ℕ) → List ℕ
number_text word n bits = if bit_at bits n == 1 then word ++ decimal n else []

abbrev pub word_after : (word : List ℕ) → (n bits : ℕ) → List ℕ
word_after word n bits = if bit_at bits n == 1 then codes "," else word

-- of the k numbers from n on, the numbers whose bits are set: the first after this word, and the others after commas
abbrev pub numbers_from : (word : List ℕ) → (n k bits : ℕ) → List ℕ
numbers_from word n zero bits = []
numbers_from word n (suc k) bits = number_text word n bits ++ numbers_from (word_after word n bits) (n + 1) k bits

-- the numbers of the findings in order, as ` finding 6,14`; nothing, if there are no findings
abbrev pub findings_text : Findings → List ℕ
findings_text findings = numbers_from (codes " finding ") 0 32 (bits_of findings)

-- the line of a row
abbrev pub row_line : Row → List ℕ
row_line row =
    spaces row.depth ++ (kind_word row.kind ++ (codes " at " ++ (decimal row.offset
    ++ (codes " length " ++ (decimal row.length ++ (subject_text row.kind row
    ++ (findings_text row.findings ++ line_feed)))))))
