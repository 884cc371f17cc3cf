-- The extraction of a part through packed sections: the search for the first volume that has a file with the part's name,
-- and the text (PI specification, volume 3, sections 3.2.3, 3.2.4, 3.2.5.2 and 3.2.5.7). Volumes are searched in the
-- order of the rows of `list --open`.
use Rattle.std.specs.Prelude.{◌≡◌, ◌⊎◌, ℕ, zero, suc, Bool, true, List, [], ◌∷◌, length, Option, Some, None, Result, Ok, Err}
use Rattle.std.specs.Prelude.{IsOkAnd, ⊤}
use Rattle.fv_base.specs.Words.{out_of_memory}
use Rattle.fv_base.specs.declared.fault.Fault.{Fault}
use Rattle.fv_base.specs.declared.guid.Guid.{Guid}
use Rattle.fv_budget.specs.Words.{contents_limit, nesting_limit, packed_frame}
use Rattle.fv_open.specs.Words.{head_in, is_decoded, opened_frame, open_out_of_memory}
use Rattle.fv_open.specs.declared.fault.OpenFault.{OpenFault}
use Rattle.fv_open.specs.declared.way.Way.{Way}
use Rattle.fv_plan.specs.declared.plan.Part.{Part}
use Rattle.fv_rows.specs.Words.{NodeMeaning, VolumeNode, FileNode, SectionNode, TreeRow, rows_of_sections, tree_rows}
use Rattle.fv_section.specs.Words.{FrameForm}
use Rattle.fv_tree.specs.Words.{Meaning, FileMeaning, SectionMeaning, AcceptedStream, HasFrame, NotStream, file_named, files_of}
use Rattle.fv_tree.specs.Words.{sections_from}
use Rattle.fv_extract.specs.Extractions.{IsLaidOut, IsPart, StopsPart}
use Rattle.fv_extract.specs.ExtractionTexts.{ExtractionText}
use Rattle.fv_extract.specs.Progresses.{at_start, not_sections, opened, skipped, unopened}
use Rattle.fv_extract.specs.declared.extracting.Extraction.{Extraction}
use Rattle.fv_extract.specs.declared.opened_search.Search.{Search}
use Rattle.fv_extract.specs.declared.outcome.Outcome.{Outcome}
use Rattle.fv_extract.specs.declared.progress.Progress.{Progress}

-- ---- the end of a search

-- how a search ends, and its progress: in a volume that has the file, with the progress before this volume; or nowhere,
-- with the progress at the end
pub data SearchEnd : Type 0 where
  InVolume : Meaning → Progress → SearchEnd
  Nowhere : Progress → SearchEnd

-- the end of the search in one volume, by its file with the name
abbrev pub end_in : Option FileMeaning → Meaning → Progress → SearchEnd
end_in (Some f) m s = InVolume m s
end_in None m s = Nowhere s

-- ---- the search in rows, given the search in the packed sections among them: these definitions take a relation for it,
-- and PackedSearch closes the recursion

-- a relation of three things: the progress before a packed section; the section; and the end of the search in it
abbrev pub PackedRelation : Type 1
PackedRelation = Progress → FrameForm → SearchEnd → Type 0

-- the same, for the contents of a section in place of the section
abbrev pub ContentsRelation : Type 1
ContentsRelation = Progress → List ℕ → SearchEnd → Type 0

-- the end of the search in a section, which is packed if a frame is given
abbrev pub SectionSearch : PackedRelation → Progress → Option FrameForm → SearchEnd → Type 0
SectionSearch is_packed_end s None end = end ≡ Nowhere s
SectionSearch is_packed_end s (Some frame) end = is_packed_end s frame end

-- the end of the search in a part, without the parts that have rows of their own: a volume has the file or not, a packed
-- section is opened, and in other parts there is nothing to find
abbrev pub PartSearch : Guid → PackedRelation → Progress → NodeMeaning → SearchEnd → Type 0
PartSearch name is_packed_end s (VolumeNode m) end = end ≡ end_in (file_named name (files_of m)) m s
PartSearch name is_packed_end s (FileNode f) end = end ≡ Nowhere s
PartSearch name is_packed_end s (SectionNode section) end = SectionSearch is_packed_end s (packed_frame section) end

-- the end of the search in some rows. It ends in the first row whose part has the file: in no row before it was the file
-- found
abbrev pub RowsSearch : Guid → PackedRelation → Progress → List TreeRow → SearchEnd → Type 0
RowsSearch name is_packed_end s [] end = end ≡ Nowhere s
RowsSearch name is_packed_end s (r ∷ rows) end =
    ((m : Meaning) × (t : Progress) × PartSearch name is_packed_end s r.node (InVolume m t) × (end ≡ InVolume m t))
    ⊎ ((t : Progress) × PartSearch name is_packed_end s r.node (Nowhere t) × RowsSearch name is_packed_end t rows end)

-- the contents b of a section are not read as sections: this is the first fault of b, or memory ran out, which can
-- happen only if b has a section
abbrev pub Unread : List ℕ → Fault → Type 0
Unread b fault = ((fault ≡ out_of_memory) × HasFrame b) ⊎ NotStream b fault

-- the end of the search in the contents b of a section: in the rows of the sections that b is a stream of, or nowhere
abbrev pub ContentsOver : Guid → PackedRelation → ContentsRelation
ContentsOver name is_packed_end s b end =
    ((sections : List SectionMeaning) × (tail : ℕ) × AcceptedStream sections tail b
    × RowsSearch name is_packed_end s (rows_of_sections 0 0 0 (sections_from sections)) end)
    ⊎ ((fault : Fault) × Unread b fault × (end ≡ Nowhere (not_sections s fault)))

-- the end of the search in a packed section that has these contents, or this fault
abbrev pub OpenedOver : ContentsRelation → Progress → Result (Way × List ℕ) OpenFault → SearchEnd → Type 0
OpenedOver is_contents_end s (Ok o) end = is_contents_end (opened s (length o.1)) o.1 end
OpenedOver is_contents_end s (Err fault) end = end ≡ Nowhere (unopened s fault)

-- the end of the search in a packed section whose contents may have this length in bytes, if it may be opened: the end in
-- its contents, or nowhere because of its fault; or nowhere because memory ran out, which can happen only if the contents
-- have to be decoded
abbrev pub PackedOver : ContentsRelation → (limit : Option ℕ) → PackedRelation
PackedOver is_contents_end None s frame end = end ≡ Nowhere (skipped s)
PackedOver is_contents_end (Some limit) s frame end =
    OpenedOver is_contents_end s (opened_frame limit frame) end
    ⊎ (IsOkAnd (head_in frame) (λ e. is_decoded e.way ≡ true) × OpenedOver is_contents_end s (Err open_out_of_memory) end)

-- ---- the recursion

-- the end of the search in a packed section, in which packed sections may nest n deep, including the section itself
abbrev pub PackedSearch : Guid → ℕ → PackedRelation
PackedSearch name zero s frame end = end ≡ Nowhere (skipped s)
PackedSearch name (suc n) s frame end =
    PackedOver (ContentsOver name (PackedSearch name n)) (contents_limit s.budget) s frame end

-- the end of the search for a file with this name, in a volume and in its packed sections
abbrev pub VolumeSearch : Guid → Meaning → SearchEnd → Type 0
VolumeSearch name m end = RowsSearch name (PackedSearch name nesting_limit) at_start (tree_rows m) end

-- ---- the part

-- the result of a search, by its outcome and its progress
abbrev pub search_of : Option Outcome → Progress → Search
search_of outcome s = record { outcome = outcome; unread = s.unread; ran_out = s.budget.ran_out }

-- the result and the text of a search that ends here. In a volume, the extraction from this volume
-- gives both
abbrev pub EndText : Part → Bool → SearchEnd → Search → List ℕ → Type 0
EndText part hex (InVolume m s) search text =
    (x : Extraction) × (outcome : Outcome) × IsPart (file_named part.name (files_of m)) part.section part.instance x
    × ExtractionText hex x outcome text × (search ≡ search_of (Some outcome) s)
EndText part hex (Nowhere s) search text = (search ≡ search_of None s) × (text ≡ [])

-- why the part cannot be extracted where a search ends: memory ran out while its bytes were laid out, or a volume in the
-- part does not fit
abbrev pub EndStops : Part → SearchEnd → Fault → Type 0
EndStops part (InVolume m s) fault =
    ((fault ≡ out_of_memory) × IsLaidOut (file_named part.name (files_of m)) part.section part.instance)
    ⊎ StopsPart (file_named part.name (files_of m)) part.section part.instance fault
EndStops part (Nowhere s) fault = ⊥

-- the result and the text of looking for the part in a volume with this meaning, and in its packed sections
abbrev pub OpenedPartText : Meaning → Part → Bool → Search → List ℕ → Type 0
OpenedPartText m part hex search text = (end : SearchEnd) × VolumeSearch part.name m end × EndText part hex end search text

-- why nothing is put: the file was found, but the part cannot be extracted from its volume
abbrev pub StopsOpenedPart : Meaning → Part → Fault → Type 0
StopsOpenedPart m part fault = (end : SearchEnd) × VolumeSearch part.name m end × EndStops part end fault

-- ---- premises of laws

-- the part is not a volume that has a file with this name
abbrev pub LacksFile : Guid → NodeMeaning → Type 0
LacksFile name (VolumeNode m) = file_named name (files_of m) ≡ None
LacksFile name node = ⊤

-- the part is neither a volume nor a packed section
abbrev pub HasNoVolume : NodeMeaning → Type 0
HasNoVolume (VolumeNode m) = ⊥
HasNoVolume (FileNode f) = ⊤
HasNoVolume (SectionNode s) = packed_frame s ≡ None
