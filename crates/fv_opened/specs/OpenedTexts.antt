-- The text of `list --open`: the lines of `list`, in which the line of a packed section is followed by the lines of its
-- contents, indented further, or says why they are missing (PI specification, volume 3, sections 3.2.4, 3.2.5.2 and
-- 3.2.5.7).
use Rattle.std.specs.Prelude.{◌≡◌, ◌⊎◌, ◌+◌, ℕ, zero, suc, Bool, true, if◌then◌else◌, List, [], ◌∷◌, ◌++◌}
use Rattle.std.specs.Prelude.{length, Option, Some, None, Result, Ok, Err, IsOkAnd, codes, decimal}
use Rattle.std.specs.List.{AllByRecursion}
use Rattle.fv_base.specs.Words.{fault_number, out_of_memory}
use Rattle.fv_base.specs.declared.fault.Fault.{Fault}
use Rattle.fv_budget.specs.Words.{after_fault, after_opening, after_reading, contents_limit, full_budget, nesting_limit, packed_frame}
use Rattle.fv_budget.specs.Words.{ran_out_opening, ran_out_reading}
use Rattle.fv_budget.specs.declared.budget.Budget.{Budget}
use Rattle.fv_lines.specs.Words.{NodeText, section_start}
use Rattle.fv_open.specs.Words.{head_in, is_decoded, opened_frame, open_fault_number, open_out_of_memory}
use Rattle.fv_open.specs.declared.fault.OpenFault.{OpenFault}
use Rattle.fv_open.specs.declared.way.Way.{Way}
use Rattle.fv_open.specs.declared.way.Way.TheVariants as ways
use Rattle.fv_rows.specs.Words.{NodeMeaning, SectionNode, TreeRow, rows_of_sections, tree_rows}
use Rattle.fv_section.specs.Words.{FrameForm}
use Rattle.fv_text.specs.Words.{line_feed}
use Rattle.fv_tree.specs.Words.{Meaning, SectionMeaning, AcceptedStream, HasFrame, NotStream, sections_from}

-- ---- packed sections

-- the packed section that a part is, if it is one
abbrev pub packed_part : NodeMeaning → Option FrameForm
packed_part (SectionNode s) = packed_frame s
packed_part node = None

-- none of the rows is the row of a packed section
abbrev pub HasNothingPacked : List TreeRow → Type 0
HasNothingPacked rows = AllByRecursion (λ r. packed_part r.node ≡ None) rows

-- ---- the end of the line of a packed section

-- the way that gave the contents
abbrev pub way_text : Way → List ℕ
way_text ways.Stored = codes " stored "
way_text ways.Standard = codes " standard "
way_text ways.Uefi = codes " uefi "
way_text ways.Tiano = codes " tiano "
way_text ways.Customized = codes " customized "
way_text ways.Lzma = codes " lzma "
way_text ways.LzmaX86 = codes " lzma-x86 "
way_text ways.Crc32 = codes " crc32 "
way_text ways.Signed = codes " signed "
way_text ways.Plain = codes " plain "

-- the words for a signature, which is not verified
abbrev pub caution_text : Way → List ℕ
caution_text ways.Signed = codes " not verified"
caution_text _ = []

-- the way that gave the contents, and their length in bytes
abbrev pub opened_text : Way → ℕ → List ℕ
opened_text way n = way_text way ++ (decimal n ++ caution_text way)

-- a fault with this number at this offset, at the end of a line
abbrev pub fault_text : ℕ → ℕ → List ℕ
fault_text number offset = codes "fault " ++ (decimal number ++ (codes " at +" ++ (decimal offset ++ line_feed)))

-- why a section is not opened. The offset of the fault is in bytes from the first byte of the section
abbrev pub unopened_text : OpenFault → List ℕ
unopened_text fault =
    if ran_out_opening fault.kind then codes " not opened: out of memory\n"
    else codes " not opened: section " ++ fault_text (open_fault_number fault.kind) fault.offset

-- the end of the line of a section with too many packed sections around it
abbrev pub too_deep_text : List ℕ
too_deep_text = codes " not opened: nested too deep\n"

-- the end of the line of a section that is not opened because nothing is left of the budget
abbrev pub spent_text : List ℕ
spent_text = codes " not opened: total limit reached\n"

-- why the contents of a section are not listed. The offset of a fault is in bytes from the first byte of the contents
abbrev pub unlisted_text : Fault → List ℕ
unlisted_text fault =
    if ran_out_reading fault.kind then codes " not read: out of memory\n"
    else codes " not sections: " ++ fault_text (fault_number fault.kind) fault.place.offset

-- ---- the lines of rows, given the text of the packed sections among them: these definitions take a relation for them,
-- and PackedText closes the recursion

-- a relation of five things: the depth of a packed section; the budget before it; the section; the text after the start
-- of its line, up to the last line of its contents; and the budget after it
abbrev pub PackedRelation : Type 1
PackedRelation = ℕ → Budget → FrameForm → List ℕ → Budget → Type 0

-- the same, for the contents of a section in place of the section, and without the way and the length in its line
abbrev pub ContentsRelation : Type 1
ContentsRelation = ℕ → Budget → List ℕ → List ℕ → Budget → Type 0

-- the text of a section, which is packed if a frame is given
abbrev pub SectionText : PackedRelation → (depth : ℕ) → Budget → (number : ℕ) → SectionMeaning → Option FrameForm → List ℕ
    → Budget → Type 0
SectionText is_packed_text depth s number section None text t =
    NodeText depth number (SectionNode section) None text × (t ≡ s)
SectionText is_packed_text depth s number section (Some frame) text t =
    (more : List ℕ) × is_packed_text depth s frame more t × (text ≡ section_start depth number section ++ more)

-- the line of a part or, for a packed section, its line and the lines of its contents
abbrev pub PartText : PackedRelation → (depth : ℕ) → Budget → (number : ℕ) → NodeMeaning → List ℕ → Budget → Type 0
PartText is_packed_text depth s number (SectionNode section) text t =
    SectionText is_packed_text depth s number section (packed_frame section) text t
PartText is_packed_text depth s number node text t = NodeText depth number node None text × (t ≡ s)

-- the text of some rows, indented by this number of further levels
abbrev pub RowsOver : PackedRelation → (depth : ℕ) → Budget → List TreeRow → List ℕ → Budget → Type 0
RowsOver is_packed_text depth s [] text t = (text ≡ []) × (t ≡ s)
RowsOver is_packed_text depth s (r ∷ rows) text t =
    (u : Budget) × (here : List ℕ) × (rest : List ℕ) × PartText is_packed_text (depth + r.depth) s r.number r.node here u
    × (text ≡ here ++ rest) × RowsOver is_packed_text depth u rows rest t

-- the contents b of a section are not read as sections: this is the first fault of b, or memory ran out, which can
-- happen only if b has a section
abbrev pub Unlisted : List ℕ → Fault → Type 0
Unlisted b fault = ((fault ≡ out_of_memory) × HasFrame b) ⊎ NotStream b fault

-- the text of the contents b of a section: the rows of the sections that b is a stream of, or why b is not listed
abbrev pub ContentsOver : PackedRelation → ContentsRelation
ContentsOver is_packed_text depth s b text t =
    ((sections : List SectionMeaning) × (tail : ℕ) × AcceptedStream sections tail b × ((lines : List ℕ)
    × RowsOver is_packed_text (depth + 1) s (rows_of_sections 0 0 0 (sections_from sections)) lines t
    × (text ≡ line_feed ++ lines)))
    ⊎ ((fault : Fault) × Unlisted b fault × (text ≡ unlisted_text fault) × (t ≡ after_reading s fault))

-- the text of a packed section that has these contents, or this fault
abbrev pub OpenedOver : ContentsRelation → (depth : ℕ) → Budget → Result (Way × List ℕ) OpenFault → List ℕ → Budget → Type 0
OpenedOver is_contents_text depth s (Ok opened) text t =
    (more : List ℕ) × is_contents_text depth (after_opening s (length opened.1)) opened.1 more t
    × (text ≡ opened_text opened.0 (length opened.1) ++ more)
OpenedOver is_contents_text depth s (Err fault) text t = (text ≡ unopened_text fault) × (t ≡ after_fault s fault)

-- the text of a packed section whose contents have at most this length: the text of its contents or of its fault; or the
-- text of a fault because memory ran out, which can happen only if the contents have to be decoded. No limit is given if
-- the budget is spent
abbrev pub PackedOver : ContentsRelation → (limit : Option ℕ) → PackedRelation
PackedOver is_contents_text None depth s frame text t = (text ≡ spent_text) × (t ≡ s)
PackedOver is_contents_text (Some limit) depth s frame text t =
    OpenedOver is_contents_text depth s (opened_frame limit frame) text t
    ⊎ (IsOkAnd (head_in frame) (λ e. is_decoded e.way ≡ true)
    × OpenedOver is_contents_text depth s (Err open_out_of_memory) text t)

-- ---- the recursion

-- the text of a packed section, in which packed sections may nest n deep, including the section itself
abbrev pub PackedText : ℕ → PackedRelation
PackedText zero depth s frame text t = (text ≡ too_deep_text) × (t ≡ s)
PackedText (suc n) depth s frame text t = PackedOver (ContentsOver (PackedText n)) (contents_limit s) depth s frame text t

-- the text of some rows, indented by this number of further levels, in which packed sections may nest n deep
abbrev pub OpenedRows : ℕ → (depth : ℕ) → Budget → List TreeRow → List ℕ → Budget → Type 0
OpenedRows n = RowsOver (PackedText n)

-- the text is the output of `list --open` for a volume with this meaning, and `ran_out` says whether memory ran out
abbrev pub OpenedListText : Meaning → (ran_out : Bool) → List ℕ → Type 0
OpenedListText m ran_out text =
    (t : Budget) × OpenedRows nesting_limit 0 full_budget (tree_rows m) text t × (ran_out ≡ t.ran_out)
