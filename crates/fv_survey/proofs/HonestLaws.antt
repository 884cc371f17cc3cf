-- The findings of a survey are honest. The steps:
-- 1. Each finding of the first row of a portion is so in the bytes of the portion (`volume_breaks` up to
--    `first_founded`).
-- 2. In the rows around a portion, its reading says what the bytes should be (`In`). So it is of the portions in a
--    volume (`volume_in`), in a piece (`piece_in`), in a section (`sections_in`), and of all that a step puts back
--    (`inside_in`, `after_in`).
use Rattle.std.proofs.Common.{◌≡◌, ◌≤◌, ◌<◌, ◌⊎◌, inl, inr, ◌||◌, ◌&&◌, ◌==◌, ℕ, zero, suc, ◌+◌, ◌-◌, ◌%◌, List, [], ◌∷◌, Bool, true, false}
use Rattle.std.proofs.Common.{length, take_all, drop, drop-drop, length-drop, nat_lt, nat_le, ltb-false, ltb-true, le-leb, eqb-true, eq-eqb, if◌then◌else◌, refl, sym, ap, ◌∙◌, subst, arith}
use Rattle.std.specs.Prelude.{◌*◌, ◌/◌, map, not, Option, Some, None, slice_index}
use Rattle.std.specs.List.{AllByRecursion}
use Rattle.std.proofs.lemmas.Nat.Bits.{bit_at_or}
use Rattle.fv_base.proofs.Laws.{and_split, up_is_not_down}
use Rattle.fv_base.specs.Words.{all_are, erased_byte, field}
use Rattle.fv_base.specs.declared.fault.FaultKind.{FaultKind}
use Rattle.fv_base.specs.declared.fault.FaultKind.TheVariants as faults
use Rattle.fv_base.specs.declared.flash.Polarity.{Polarity}
use Rattle.fv_file.specs.Words.{file_header_len_at, leading_count, state_of}
use Rattle.fv_section.specs.Words.{has_section_size, section_header_len_at, section_size_at, up_to_4}
use Rattle.fv_survey.specs.declared.findings.Findings.{Findings}
use Rattle.fv_survey.specs.declared.parts.Parts.{Parts}
use Rattle.fv_survey.specs.declared.pieces.Layout.{Layout}
use Rattle.fv_survey.specs.declared.pieces.Piece.{Piece}
use Rattle.fv_survey.specs.declared.pieces.Sizes.{Sizes}
use Rattle.fv_survey.specs.declared.pieces.Sort.{Sort}
use Rattle.fv_survey.specs.declared.pieces.Sort.TheVariants as sorts
use Rattle.fv_survey.specs.declared.portion.Nesting.{Nesting}
use Rattle.fv_survey.specs.declared.portion.Reading.{Reading}
use Rattle.fv_survey.specs.declared.portion.Reading.TheVariants as readings
use Rattle.fv_survey.specs.declared.row.Row.{Row}
use Rattle.fv_survey.specs.declared.row.RowKind.{RowKind}
use Rattle.fv_survey.specs.declared.row.RowKind.TheVariants as kinds
use Rattle.fv_survey.specs.declared.section_step.BodyForm.{BodyForm}
use Rattle.fv_survey.specs.declared.section_step.BodyForm.TheVariants as forms
use Rattle.fv_survey.specs.declared.systems.Files.{Files}
use Rattle.fv_survey.specs.declared.systems.Files.TheVariants as files
use Rattle.fv_survey.specs.Words.{Bare, EndsOdd, Fits, FitsAs, Forest, IsBroken, IsFounded, IsHonest, IsInLost, IsTooDeep, Loses, LostIn}
use Rattle.fv_survey.specs.Words.{LostInSection, LostInVolume, LostSections, PortionForm, Reads, ReasonAs, SectionBreaks, Tree}
use Rattle.fv_survey.specs.Words.{UnreadBreaks, VolumeBreaks, after_as, ahead, begins_section, begins_usual, body_at, body_files}
use Rattle.fv_survey.specs.Words.{body_form, body_inside, body_portion, body_reading, breaks, breaks_names, bytes_in, cells_by, cells_end}
use Rattle.fv_survey.specs.Words.{cells_from, current_files, cut, damaged_piece, data_reading, file_inside, file_piece, first_start}
use Rattle.fv_survey.specs.Words.{found_around, found_volume, has_finding, has_top_elsewhere, has_twins, headed_piece, inside, inside_as}
use Rattle.fv_survey.specs.Words.{is_leaf, is_opened, is_searched, is_stub_state, is_too_deep, kind_at, layout_of, lost_inside, lost_len}
use Rattle.fv_survey.specs.Words.{may_be_header, may_begin, may_follow, name_findings, named_file, next_at, next_section, none, only}
use Rattle.fv_survey.specs.Words.{opened, opened_around, parts_by, parts_in, piece_by, piece_inside, piece_said, piece_with}
use Rattle.fv_survey.specs.Words.{place_findings, plain_opening, plain_piece, read_sizes, row_as, row_of, run_inside, run_row, searched}
use Rattle.fv_survey.specs.Words.{section_end, section_findings, section_opening, sections_inside, sizes_by, sort_by, sound_piece}
use Rattle.fv_survey.specs.Words.{space_piece, stream_end, stream_from, strict_kind, united, volume_end, volume_inside, volume_said}
use Rattle.fv_survey.specs.Words.{whole_image, whole_portion, whole_sections, whole_stream, with_if}
use Rattle.fv_survey.specs.inner.Bounds.{PartsLie}
use Rattle.fv_survey.specs.inner.Pieces.{IsPiece}
use Rattle.fv_tree.specs.Words.{holds_sections}
use Rattle.fv_survey.proofs.FindingLaws.{finding_is}
use Rattle.fv_survey.proofs.FittingLaws.{ahead_by}
use Rattle.fv_survey.proofs.NestLaws.{searched_leaf}
use Rattle.fv_survey.proofs.PieceFindingLaws.{findings_honest, in_more, in_only, in_one, not_in_none, one_of_two}
use Rattle.fv_survey.proofs.PlaceLaws.{IsPlaced, ReadsAs, Placed, begins, cut_bytes, inside_placed, after_placed, whole_placed}
use Rattle.fv_survey.proofs.PortionLaws.{length-cut}
use Rattle.fv_survey.proofs.ReadingLaws.{parted}
use Rattle.fv_survey.proofs.RuleLaws.{volume_end_lies, parts_lie, piece_lies, section_lies, start_long}

-- ---- sets of kinds

no_kind : (P : Type 0) (k : FaultKind) → has_finding k none ≡ true → P
no_kind P k is = absurd (up_is_not_down _ is (not_in_none k))

in_united : (k : FaultKind) (x y : Findings) → has_finding k (united x y) ≡ true
    → (has_finding k x ≡ true) ⊎ (has_finding k y ≡ true)
in_united k x y is = one_of_two _ _ (rw bit_at_or at is)

in_if : (k j : FaultKind) (t : Bool) (set : Findings) → has_finding k (with_if t j set) ≡ true
    → (has_finding k set ≡ true) ⊎ ((t ≡ true) × (k ≡ j))
in_if k j true set is = elim (in_more k j set is) [
  | inl before ↦ inl before
  | inr same ↦ inr (refl, same)
]
in_if k j false set is = inl is

-- ---- volumes

or_left : (s t : Bool) → s ≡ true → (s || t) ≡ true
or_left s t is = rw is refl

or_right : (s t : Bool) → t ≡ true → (s || t) ≡ true
or_right true t is = refl
or_right false t is = is

names_break : (v : List ℕ) (kind : FaultKind) (twins top : Bool) → has_twins (map named_file (body_files (parts_by v) v)) ≡ twins
    → has_top_elsewhere (current_files (body_files (parts_by v) v)) ≡ top
    → has_finding kind (with_if top faults.TopFile (with_if twins faults.DuplicateName none)) ≡ true → breaks_names kind v ≡ true
names_break v kind twins top e f is =
    elim (in_if kind faults.TopFile top (with_if twins faults.DuplicateName none) is) [
      | inl before ↦ elim (in_if kind faults.DuplicateName twins none before) [
        | inl nothing ↦ no_kind _ kind nothing
        | inr twin ↦ subst (λ (k : FaultKind). breaks_names k v ≡ true) (sym twin.1) (e ∙ twin.0)
      ]
      | inr last ↦ subst (λ (k : FaultKind). breaks_names k v ≡ true) (sym last.1) (f ∙ last.0)
    ]

pub volume_breaks : (found : Bool) (v : List ℕ) (kind : FaultKind) → has_finding kind (volume_said found v).findings ≡ true
    → VolumeBreaks kind v
unfolding name_findings
volume_breaks found v kind is = elim (in_united kind (parts_by v).findings (name_findings (parts_by v) v) is) [
  | inl header ↦ or_left (breaks kind v) (breaks_names kind v) (sym (finding_is kind v) ∙ header)
  | inr names ↦ or_right (breaks kind v) (breaks_names kind v) (names_break v kind _ _ refl refl names)
]

-- the bytes of a volume row are these bytes
volume_founded : (b : List ℕ) (around before : List Row) (found : Bool) (n : ℕ) (p : PortionForm) (v : List ℕ) → field p.at n b ≡ v
    → IsFounded b around before (row_of (volume_said found v) n p)
volume_founded b around before found n p v same kind is = subst (VolumeBreaks kind) (sym same) (volume_breaks found v kind is)

-- ---- what a portion is read as, in the rows around it

-- these are cells of the volume v from some of them on. The volume begins at the offset `start`
record CellsOf (v : List ℕ) (start : ℕ) (layout : Layout) (p : PortionForm) : Type 0 where
  same : layout ≡ layout_of (parts_by v)
  before : ℕ
  at : p.at ≡ start + (parts_by v).first + before
  bytes : p.bytes ≡ drop before (cells_by (parts_by v).files (parts_by v).first v)

-- these are cells of the volume in whose row they lie
record InVolume (b : List ℕ) (around : List Row) (layout : Layout) (p : PortionForm) : Type 0 where
  volume : Row
  outer : List Row
  is : around ≡ volume ∷ outer
  kind : volume.kind ≡ kinds.Volume
  cells : CellsOf (bytes_in b volume) volume.offset layout p

-- the innermost row is a file or a section
abbrev IsInStream : List Row → Type 0
IsInStream [] = ⊥
IsInStream (outer ∷ around) = (outer.kind ≡ kinds.File) ⊎ (outer.kind ≡ kinds.Section)

abbrev Levels : List Row → PortionForm → Type 0
Levels around p = p.nest.levels + opened_around around ≡ 8

-- these bytes should be sections, up to the end of the stream. The findings say that a section ends at no multiple of 4
record InStream (b : List ℕ) (around before : List Row) (odd : Findings) (p : PortionForm) : Type 0 where
  stream : IsInStream around
  end : p.at + length p.bytes ≡ stream_end b around
  levels : Levels around p
  each : (kind : FaultKind) → has_finding kind odd ≡ true → (kind ≡ faults.SectionSize) × EndsOdd before p.at

-- there is a reason why these bytes are lost
record InLost (b : List ℕ) (around : List Row) (findings : Findings) (p : PortionForm) : Type 0 where
  kind : FaultKind
  some : has_finding kind findings ≡ true
  each : (k : FaultKind) → has_finding k findings ≡ true → Loses k b around (row_of (plain_opening kinds.Lost findings) (length p.bytes) p)

abbrev is_unread : RowKind → Bool
is_unread kinds.Unread = true
is_unread _ = false

abbrev InAs : List ℕ → List Row → List Row → Reading → PortionForm → Type 0
InAs b around before (readings.Leaf kind findings) p = findings ≡ none
InAs b around before (readings.Run kind) p = is_unread kind ≡ true → IsInLost around
InAs b around before (readings.Lost findings) p = InLost b around findings p
InAs b around before readings.Volume p = Levels around p
InAs b around before (readings.Cells layout) p = InVolume b around layout p × Levels around p
InAs b around before (readings.Sections odd) p = InStream b around before odd p

record In (b : List ℕ) (around before : List Row) (p : PortionForm) : Type 0 where
  found : p.nest.found + found_around around ≡ 8
  read : InAs b around before p.reading p

-- the first of the portions has these rows before it, and the others may have any rows before them
abbrev AllIn : List ℕ → List Row → List Row → List PortionForm → Type 0
AllIn b around before [] = Unit {0}
AllIn b around before (p ∷ ps) = In b around before p × ((rows : List Row) → AllIn b around rows ps)

-- the portions may have any rows before them
abbrev Into : List ℕ → List Row → List PortionForm → Type 0
Into b around ps = (before : List Row) → AllIn b around before ps

-- ---- the first row of a portion

-- the first row of a run, by what it is
run_by : (P : Row → Type 0) (kind : RowKind) (p : PortionForm) → P (row_of (plain_opening kind none) (first_start p.bytes) p)
    → (first_start p.bytes ≡ 0 → p.nest.found ≡ 0 → P (row_of (plain_opening kinds.Unread (only faults.Depth)) (length p.bytes) p))
    → (first_start p.bytes ≡ 0 → (p.nest.found == 0) ≡ false
    → P (row_of (volume_said true (found_volume p).bytes) (volume_end p.bytes) p)) → P (run_row kind p)
run_by P kind p before deep found = go (nat_lt 0 (first_start p.bytes)) (p.nest.found == 0) refl refl where
  go : (v w : Bool) → nat_lt 0 (first_start p.bytes) ≡ v → (p.nest.found == 0) ≡ w
      → P (if v then row_of (plain_opening kind none) (first_start p.bytes) p
      else (if w then row_of (plain_opening kinds.Unread (only faults.Depth)) (length p.bytes) p
      else row_of (volume_said true (found_volume p).bytes) (volume_end p.bytes) p))
  go true w e f = before
  go false true e f = deep (omega (arith, ltb-false 0 (first_start p.bytes) e)) (eqb-true p.nest.found 0 f)
  go false false e f = found (omega (arith, ltb-false 0 (first_start p.bytes) e)) f

-- the bytes of a volume that was found
found_bytes : (b : List ℕ) (p : PortionForm) → IsPlaced b p → first_start p.bytes ≡ 0
    → (length (found_volume p).bytes ≡ volume_end p.bytes) × (field p.at (volume_end p.bytes) b ≡ (found_volume p).bytes)
found_bytes b p placed e =
    let lies = volume_end_lies p.bytes (start_long p.bytes placed.some e) in
    let long : length (found_volume p).bytes ≡ volume_end p.bytes =
    length-cut readings.Volume (searched p.nest) 0 (volume_end p.bytes) p (omega arith) lies.1 ∙ omega arith in
    let at : p.at + 0 ≡ p.at = omega arith in (
      long,
      sym (cut_bytes b readings.Volume (searched p.nest) 0 (volume_end p.bytes) p placed
          ∙ ap (λ (k : ℕ). field k (length (found_volume p).bytes) b) at ∙ ap (λ (n : ℕ). field p.at n b) long),
    )

run_founded : (b : List ℕ) (around before : List Row) (kind : RowKind) (p : PortionForm) → IsPlaced b p
    → p.nest.found + found_around around ≡ 8 → IsFounded b around before (run_row kind p)
run_founded b around before kind p placed deep = run_by (IsFounded b around before) kind p (λ k is. no_kind _ k is) last found where
  last : first_start p.bytes ≡ 0 → p.nest.found ≡ 0
      → IsFounded b around before (row_of (plain_opening kinds.Unread (only faults.Depth)) (length p.bytes) p)
  last e f k is =
      subst (λ (j : FaultKind). UnreadBreaks j b around (row_of (plain_opening kinds.Unread (only faults.Depth)) (length p.bytes) p))
      (sym (in_one k faults.Depth is))
      (subst (λ (a : List ℕ). may_begin a ≡ true) placed.bytes (begins p.bytes placed.some e), omega (arith, deep, f))

  found : first_start p.bytes ≡ 0 → (p.nest.found == 0) ≡ false
      → IsFounded b around before (row_of (volume_said true (found_volume p).bytes) (volume_end p.bytes) p)
  found e f = volume_founded b around before true (volume_end p.bytes) p (found_volume p).bytes (found_bytes b p placed e).1

-- the cells of the volume from the portion on are the bytes of the portion
cells_are : (b : List ℕ) (volume : Row) (layout : Layout) (p : PortionForm) → CellsOf (bytes_in b volume) volume.offset layout p
    → cells_from b volume p.at ≡ p.bytes
cells_are b volume layout p c =
    let k : p.at - (volume.offset + (parts_in b volume).first) ≡ c.before = omega (arith, c.at) in
    ap (λ (n : ℕ). drop n (cells_by (parts_in b volume).files (parts_in b volume).first (bytes_in b volume))) k ∙ sym c.bytes

piece_founded : (b : List ℕ) (volume : Row) (outer before : List Row) (layout : Layout) (p : PortionForm) → volume.kind ≡ kinds.Volume
    → CellsOf (bytes_in b volume) volume.offset layout p → IsFounded b (volume ∷ outer) before (row_as (readings.Cells layout) p)
piece_founded b volume outer before layout p is c =
    go (piece_by layout p.bytes).sort (piece_by layout p.bytes) (λ kind finds.
    subst (λ (a : List ℕ). IsBroken (layout_of (parts_in b volume)) kind a) (sym (cells_are b volume layout p c))
    (subst (λ (l : Layout). IsBroken l kind p.bytes) c.same (findings_honest layout p.bytes kind finds)))
  where
    lost : (piece : Piece) (kind : FaultKind) → IsBroken (layout_of (parts_in b volume)) kind (cells_from b volume p.at)
        → Loses kind b (volume ∷ outer) (row_of (piece_said sorts.Lost piece) piece.span p)
    lost piece kind broken =
        subst (λ (k : RowKind). LostIn k kind b volume outer (row_of (piece_said sorts.Lost piece) piece.span p)) (sym is) (inr (inr broken))

    go : (sort : Sort) (piece : Piece)
        → ((kind : FaultKind) → has_finding kind piece.findings ≡ true
        → IsBroken (layout_of (parts_in b volume)) kind (cells_from b volume p.at))
        → IsFounded b (volume ∷ outer) before (row_of (piece_said sort piece) piece.span p)
    go sorts.Free piece each kind finds = (is, each kind finds)
    go sorts.Stub piece each kind finds = (is, each kind finds)
    go sorts.Lost piece each kind finds = lost piece kind (each kind finds)
    go sorts.File piece each kind finds = (is, each kind finds)
    go sorts.Pad piece each kind finds = (is, each kind finds)
    go sorts.Dead piece each kind finds = (is, each kind finds)

-- from the portion on, the stream has the bytes of the portion
rest_is : (b : List ℕ) (around before : List Row) (odd : Findings) (p : PortionForm) → IsPlaced b p → InStream b around before odd p
    → stream_from b around p.at ≡ p.bytes
rest_is b around before odd p placed s =
    let long : stream_end b around - p.at ≡ length p.bytes = omega (arith, s.end) in
    ap (λ (n : ℕ). field p.at n b) long ∙ sym placed.bytes

-- the section that a portion begins with lies too deep
deep_is : (b : List ℕ) (around before : List Row) (odd : Findings) (p : PortionForm) (row : Row) → IsPlaced b p → InStream b around before odd p
    → row.offset ≡ p.at → is_too_deep p.nest (body_form (kind_at p.bytes) (body_at p.bytes)) ≡ true → IsTooDeep b around row
deep_is b around before odd p row placed s at e =
    let parts = and_split _ _ e in
    let none : p.nest.levels ≡ 0 = eqb-true p.nest.levels 0 parts.1 in
    let rest : stream_from b around row.offset ≡ p.bytes =
    ap (λ (k : ℕ). stream_from b around k) at ∙ rest_is b around before odd p placed s in (
      subst (λ (a : List ℕ). is_opened (body_form (kind_at a) (body_at a)) ≡ true) (sym rest) parts.0,
      omega (arith, none, s.levels),
    )

-- bytes among sections are lost
loses_sections : (b : List ℕ) (around : List Row) (row : Row) (kind : FaultKind) → IsInStream around
    → (kind ≡ faults.SectionTail) ⊎ (kind ≡ faults.SectionSize) → LostSections kind b around row → Loses kind b around row
loses_sections b [] row kind inside which lost = absurd inside
loses_sections b (outer ∷ around) row kind (inl file) which lost =
    subst (λ (k : RowKind). LostIn k kind b outer around row) (sym file) lost
loses_sections b (outer ∷ around) row kind (inr section) which lost =
    subst (λ (k : RowKind). LostIn k kind b outer around row) (sym section) (go which)
  where
    go : (kind ≡ faults.SectionTail) ⊎ (kind ≡ faults.SectionSize) → LostInSection kind b outer around row
    go (inl tail) =
        subst (λ (k : FaultKind). LostInSection k b outer around row) (sym tail)
        (subst (λ (k : FaultKind). LostSections k b (outer ∷ around) row) tail lost)
    go (inr size) =
        subst (λ (k : FaultKind). LostInSection k b outer around row) (sym size)
        (subst (λ (k : FaultKind). LostSections k b (outer ∷ around) row) size lost)

-- where no section begins
lost_founded : (b : List ℕ) (around before : List Row) (odd : Findings) (p : PortionForm) → IsPlaced b p → InStream b around before odd p
    → begins_section p.bytes ≡ false
    → IsFounded b around before (row_of (plain_opening kinds.Lost (section_findings p.bytes)) (length p.bytes) p)
lost_founded b around before odd p placed s e kind is = go (nat_lt (length p.bytes) 4) refl is where
  row : Row
  row = row_of (plain_opening kinds.Lost (section_findings p.bytes)) (length p.bytes) p

  wrong : 4 ≤ length p.bytes → has_section_size p.bytes ≡ false
  wrong least = right_fails (nat_le 4 (length p.bytes)) (has_section_size p.bytes) (le-leb 4 (length p.bytes) least) e where
    right_fails : (s t : Bool) → s ≡ true → (s && t) ≡ false → t ≡ false
    right_fails true t is none = none
    right_fails false t is none = absurd (let bad : false ≡ true = is in cc)

  go : (v : Bool) → nat_lt (length p.bytes) 4 ≡ v
      → has_finding kind (if v then only faults.SectionTail else only faults.SectionSize) ≡ true → Loses kind b around row
  go true few is =
      let tail : kind ≡ faults.SectionTail = in_one kind faults.SectionTail is in
      loses_sections b around row kind s.stream (inl tail)
      (subst (λ (k : FaultKind). LostSections k b around row) (sym tail) (s.end, ltb-true (length p.bytes) 4 few))
  go false many is =
      let size : kind ≡ faults.SectionSize = in_one kind faults.SectionSize is in
      let least : 4 ≤ length p.bytes = ltb-false (length p.bytes) 4 many in
      loses_sections b around row kind s.stream (inr size)
      (subst (λ (k : FaultKind). LostSections k b around row) (sym size)
      (s.end, least, subst (λ (a : List ℕ). has_section_size a ≡ false) placed.bytes (wrong least)))

sections_founded : (b : List ℕ) (around before : List Row) (odd : Findings) (p : PortionForm) → IsPlaced b p → InStream b around before odd p
    → IsFounded b around before (row_as (readings.Sections odd) p)
sections_founded b around before odd p placed s = go (begins_section p.bytes) refl where
  deep : Bool
  deep = is_too_deep p.nest (body_form (kind_at p.bytes) (body_at p.bytes))

  section : Row
  section = row_of (section_opening (kind_at p.bytes) (with_if deep faults.Depth odd)) (section_size_at p.bytes) p

  go : (v : Bool) → begins_section p.bytes ≡ v → IsFounded b around before (if v then section
      else row_of (plain_opening kinds.Lost (section_findings p.bytes)) (length p.bytes) p)
  go true e kind is = elim (in_if kind faults.Depth deep odd is) [
    | inl old ↦ let found = s.each kind old in subst (λ (k : FaultKind). SectionBreaks k b around before section) (sym found.0) found.1
    | inr last ↦ subst (λ (k : FaultKind). SectionBreaks k b around before section) (sym last.1) (deep_is b around before odd p section placed s refl last.0)
  ]
  go false e kind is = lost_founded b around before odd p placed s e kind is

first_founded : (b : List ℕ) (around before : List Row) (reading : Reading) (p : PortionForm) → IsPlaced b p
    → p.nest.found + found_around around ≡ 8 → InAs b around before reading p → IsFounded b around before (row_as reading p)
first_founded b around before (readings.Leaf kind findings) p placed deep none_in =
    λ k is. no_kind _ k (subst (λ (set : Findings). has_finding k set ≡ true) none_in is)
first_founded b around before (readings.Run kind) p placed deep read = run_founded b around before kind p placed deep
first_founded b around before (readings.Lost findings) p placed deep read = read.each
first_founded b around before readings.Volume p placed deep read =
    volume_founded b around before false (length p.bytes) p p.bytes (sym placed.bytes)
first_founded b around before (readings.Cells layout) p placed deep (v, levels) =
    subst (λ (rows : List Row). IsFounded b rows before (row_as (readings.Cells layout) p)) (sym v.is)
    (piece_founded b v.volume v.outer before layout p v.kind v.cells)
first_founded b around before (readings.Sections odd) p placed deep read = sections_founded b around before odd p placed read

-- ---- what is put ahead

put_first : (b : List ℕ) (around before : List Row) (p : PortionForm) (ps : List PortionForm) → (0 < length p.bytes → In b around before p)
    → Into b around ps → AllIn b around before (ahead p ps)
put_first b around before p ps one rest = ahead_by (AllIn b around before) p ps (λ some. (one some, rest)) (λ _. rest before)

put_in : (b : List ℕ) (around : List Row) (p : PortionForm) (ps : List PortionForm) → ((before : List Row) → In b around before p)
    → Into b around ps → Into b around (ahead p ps)
put_in b around p ps one rest = λ before. put_first b around before p ps (λ _. one before) rest

leaf_in : (b : List ℕ) (around : List Row) (kind : RowKind) (nest : Nesting) (from to : ℕ) (p : PortionForm) (ps : List PortionForm)
    → nest.found + found_around around ≡ 8 → Into b around ps → Into b around (ahead (cut (readings.Leaf kind none) nest from to p) ps)
leaf_in b around kind nest from to p ps deep rest =
    put_in b around (cut (readings.Leaf kind none) nest from to p) ps (λ _. record { found = deep; read = refl }) rest

run_in : (b : List ℕ) (around : List Row) (kind : RowKind) (nest : Nesting) (from to : ℕ) (p : PortionForm) (ps : List PortionForm)
    → nest.found + found_around around ≡ 8 → (is_unread kind ≡ true → IsInLost around) → Into b around ps
    → Into b around (ahead (cut (readings.Run kind) nest from to p) ps)
run_in b around kind nest from to p ps deep lost rest =
    put_in b around (cut (readings.Run kind) nest from to p) ps (λ _. record { found = deep; read = lost }) rest

never : (P : Type 0) → false ≡ true → P
never P e = absurd (let bad : false ≡ true = e in cc)

-- ---- volumes

-- v is the volume of this row, in these rows
record IsVolume (b : List ℕ) (row : Row) (around : List Row) (v : PortionForm) : Type 0 where
  kind : row.kind ≡ kinds.Volume
  bytes : bytes_in b row ≡ v.bytes
  offset : row.offset ≡ v.at
  long : row.length ≡ length v.bytes
  found : v.nest.found + found_around (row ∷ around) ≡ 8
  levels : Levels (row ∷ around) v
  lie : PartsLie (length v.bytes) (parts_by v.bytes)

-- why bytes of the volume are lost
volume_loses : (b : List ℕ) (row : Row) (around : List Row) (v : PortionForm) (only_one : FaultKind) (from to : ℕ) → IsVolume b row around v
    → LostInVolume only_one b row (row_of (plain_opening kinds.Lost (only only_one))
    (length (cut (readings.Lost (only only_one)) (inside v.nest) from to v).bytes) (cut (readings.Lost (only only_one)) (inside v.nest) from to v))
    → InLost b (row ∷ around) (only only_one) (cut (readings.Lost (only only_one)) (inside v.nest) from to v)
volume_loses b row around v only_one from to is lost = record {
  kind = only_one;
  some = in_only only_one;
  each = λ k finds. subst (λ (j : FaultKind). Loses j b (row ∷ around) bytes) (sym (in_one k only_one finds))
      (subst (λ (outer : RowKind). LostIn outer only_one b row around bytes) (sym is.kind) lost);
} where
  bytes : Row
  bytes = row_of (plain_opening kinds.Lost (only only_one))
      (length (cut (readings.Lost (only only_one)) (inside v.nest) from to v).bytes) (cut (readings.Lost (only only_one)) (inside v.nest) from to v)

-- the first bytes of the body of a volume
first_at : (b : List ℕ) (row : Row) (around : List Row) (v : PortionForm) → IsVolume b row around v
    → v.at + (parts_by v.bytes).first ≡ row.offset + (parts_in b row).first
first_at b row around v is =
    ap (λ (k : ℕ). k + (parts_by v.bytes).first) (sym is.offset) ∙ ap (λ (a : List ℕ). row.offset + (parts_by a).first) (sym is.bytes)

unknown_in : (b : List ℕ) (row : Row) (around : List Row) (v : PortionForm) → IsVolume b row around v
    → (parts_by v.bytes).files ≡ files.Unknown → Into b (row ∷ around) (body_inside files.Unknown (inside v.nest) (parts_by v.bytes) v [])
unknown_in b row around v is e =
    put_in b (row ∷ around) body [] (λ _. record {
      found = is.found;
      read = volume_loses b row around v faults.FileSystem (parts_by v.bytes).first (length v.bytes) is
          (inl (refl, ap (λ (a : List ℕ). (parts_by a).files) is.bytes ∙ e, first_at b row around v is, ends));
    }) (λ _. tt)
  where
    body : PortionForm
    body = cut (readings.Lost (only faults.FileSystem)) (inside v.nest) (parts_by v.bytes).first (length v.bytes) v

    ends : body.at + length body.bytes ≡ row.offset + row.length
    ends =
        let long : length body.bytes ≡ length v.bytes - (parts_by v.bytes).first =
        length-cut (readings.Lost (only faults.FileSystem)) (inside v.nest) (parts_by v.bytes).first (length v.bytes) v
        is.lie.within (omega arith) in
        omega (arith, long, is.lie.within, is.offset, is.long)

cells_in : (b : List ℕ) (row : Row) (around : List Row) (v : PortionForm) (f : Files) → IsVolume b row around v
    → cells_by (parts_by v.bytes).files (parts_by v.bytes).first v.bytes
    ≡ field (parts_by v.bytes).first (cells_end (parts_by v.bytes).first (length v.bytes) - (parts_by v.bytes).first) v.bytes
    → Into b (row ∷ around) (body_inside files.Ffs2 (inside v.nest) (parts_by v.bytes) v [])
cells_in b row around v f is whole =
    put_in b (row ∷ around) cells (ahead tail []) (λ _. record {
      found = is.found;
      read = (
        record {
          volume = row;
          outer = around;
          is = refl;
          kind = is.kind;
          cells = subst (λ (a : List ℕ). CellsOf a row.offset (layout_of (parts_by v.bytes)) cells) (sym is.bytes)
              (subst (λ (k : ℕ). CellsOf v.bytes k (layout_of (parts_by v.bytes)) cells) (sym is.offset) here);
        },
        is.levels,
      );
    }) (put_in b (row ∷ around) tail [] (λ _. record {
      found = is.found;
      read = volume_loses b row around v faults.Length end (length v.bytes) is (inr (inl (refl, at_end, ends)));
    }) (λ _. tt))
  where
    first : ℕ
    first = (parts_by v.bytes).first

    end : ℕ
    end = cells_end first (length v.bytes)

    cells : PortionForm
    cells = cut (readings.Cells (layout_of (parts_by v.bytes))) (inside v.nest) first end v

    tail : PortionForm
    tail = cut (readings.Lost (only faults.Length)) (inside v.nest) end (length v.bytes) v

    here : CellsOf v.bytes v.at (layout_of (parts_by v.bytes)) cells
    here = record { same = refl; before = 0; at = omega arith; bytes = sym whole }

    at_end : tail.at ≡ row.offset + cells_end (parts_in b row).first row.length
    at_end =
        ap (λ (k : ℕ). k + cells_end (parts_by v.bytes).first (length v.bytes)) (sym is.offset)
        ∙ ap (λ (n : ℕ). row.offset + cells_end (parts_by v.bytes).first n) (sym is.long)
        ∙ ap (λ (a : List ℕ). row.offset + cells_end (parts_by a).first row.length) (sym is.bytes)

    within : end ≤ length v.bytes
    within = omega (arith, is.lie.within)

    ends : tail.at + length tail.bytes ≡ row.offset + row.length
    ends =
        let long : length tail.bytes ≡ length v.bytes - end =
        length-cut (readings.Lost (only faults.Length)) (inside v.nest) end (length v.bytes) v within (omega arith) in
        omega (arith, long, within, is.offset, is.long)

body_in : (b : List ℕ) (row : Row) (around : List Row) (v : PortionForm) (f : Files) → IsVolume b row around v → (parts_by v.bytes).files ≡ f
    → Into b (row ∷ around) (body_inside f (inside v.nest) (parts_by v.bytes) v [])
body_in b row around v files.Store is e =
    run_in b (row ∷ around) kinds.Store (inside v.nest) (parts_by v.bytes).first (length v.bytes) v [] is.found (λ k. never _ k) (λ _. tt)
body_in b row around v files.Unknown is e = unknown_in b row around v is e
body_in b row around v files.Ffs1 is e =
    cells_in b row around v files.Ffs1 is (ap (λ (f : Files). cells_by f (parts_by v.bytes).first v.bytes) e)
body_in b row around v files.Ffs2 is e =
    cells_in b row around v files.Ffs2 is (ap (λ (f : Files). cells_by f (parts_by v.bytes).first v.bytes) e)
body_in b row around v files.Ffs3 is e =
    cells_in b row around v files.Ffs3 is (ap (λ (f : Files). cells_by f (parts_by v.bytes).first v.bytes) e)

volume_in : (b : List ℕ) (row : Row) (around : List Row) (v : PortionForm) → IsVolume b row around v
    → Into b (row ∷ around) (volume_inside v [])
volume_in b row around v is =
    let parts : Parts = parts_by v.bytes in
    let nest : Nesting = inside v.nest in
    let body : List PortionForm = body_inside parts.files nest parts v [] in
    let filler : List PortionForm = ahead (cut (readings.Leaf kinds.Filler none) nest parts.ext_end parts.first v) body in
    let ext : List PortionForm = ahead (cut (readings.Leaf kinds.ExtHeader none) nest parts.ext parts.ext_end v) filler in
    let between : List PortionForm = ahead (cut (readings.Run kinds.Between) nest parts.header parts.ext v) ext in
    leaf_in b (row ∷ around) kinds.VolumeHeader nest 0 parts.header v between is.found
    (run_in b (row ∷ around) kinds.Between nest parts.header parts.ext v ext is.found (λ k. never _ k)
    (leaf_in b (row ∷ around) kinds.ExtHeader nest parts.ext parts.ext_end v filler is.found
    (leaf_in b (row ∷ around) kinds.Filler nest parts.ext_end parts.first v body is.found
    (body_in b row around v parts.files is refl))))

-- ---- bytes without a structure

found_in : (b : List ℕ) (around : List Row) (p : PortionForm) → IsPlaced b p → p.nest.found + found_around around ≡ 8
    → first_start p.bytes ≡ 0 → (p.nest.found == 0) ≡ false
    → IsVolume b (row_of (volume_said true (found_volume p).bytes) (volume_end p.bytes) p) around (found_volume p)
found_in b around p placed deep e some =
    let same = found_bytes b p placed e in
    let lies = volume_end_lies p.bytes (start_long p.bytes placed.some e) in
    record {
      kind = refl;
      bytes = same.1;
      offset = omega arith;
      long = sym same.0;
      found = down p.nest.found (found_around around) some deep;
      levels = refl;
      lie = parts_lie (found_volume p).bytes (omega (arith, same.0, lies.0));
    }
  where
    down : (n m : ℕ) → (n == 0) ≡ false → n + m ≡ 8 → (n - 1) + suc m ≡ 8
    down zero m none e = absurd (let bad : true ≡ false = none in cc)
    down (suc n) m none e = omega (arith, e)

run_inside_in : (b : List ℕ) (around : List Row) (kind : RowKind) (p : PortionForm) → IsPlaced b p → p.nest.found + found_around around ≡ 8
    → Into b (run_row kind p ∷ around) (run_inside p [])
run_inside_in b around kind p placed deep = go (nat_lt 0 (first_start p.bytes)) (p.nest.found == 0) refl refl where
  go : (v w : Bool) → nat_lt 0 (first_start p.bytes) ≡ v → (p.nest.found == 0) ≡ w
      → Into b ((if v then row_of (plain_opening kind none) (first_start p.bytes) p
      else (if w then row_of (plain_opening kinds.Unread (only faults.Depth)) (length p.bytes) p
      else row_of (volume_said true (found_volume p).bytes) (volume_end p.bytes) p)) ∷ around)
      (if v || w then [] else volume_inside (found_volume p) [])
  go true w e f = λ _. tt
  go false true e f = λ _. tt
  go false false e f =
      volume_in b (row_of (volume_said true (found_volume p).bytes) (volume_end p.bytes) p) around (found_volume p)
      (found_in b around p placed deep (omega (arith, ltb-false 0 (first_start p.bytes) e)) f)

lost_in : (b : List ℕ) (row : Row) (around : List Row) (n : ℕ) (p : PortionForm) → row.kind ≡ kinds.Lost
    → p.nest.found + found_around (row ∷ around) ≡ 8 → Into b (row ∷ around) (lost_inside n p [])
lost_in b row around n p lost deep = run_in b (row ∷ around) kinds.Unread (inside p.nest) 0 n p [] deep (λ _. lost) (λ _. tt)

-- ---- pieces

-- the piece is the file of this row, in these rows
record IsFile (b : List ℕ) (row : Row) (around : List Row) (piece : Piece) (p : PortionForm) : Type 0 where
  kind : row.kind ≡ kinds.File
  end : p.at + piece.size ≡ stream_end b (row ∷ around)
  found : p.nest.found + found_around (row ∷ around) ≡ 8
  levels : Levels (row ∷ around) p
  lies : IsPiece (length p.bytes) piece

no_odd : (before : List Row) (at : ℕ) (kind : FaultKind) → has_finding kind none ≡ true
    → (kind ≡ faults.SectionSize) × EndsOdd before at
no_odd before at kind is = no_kind _ kind is

data_in : (b : List ℕ) (row : Row) (around : List Row) (polarity : Polarity) (sort : Sort) (code : ℕ) (a : List ℕ) (piece : Piece)
    (p : PortionForm) (ps : List PortionForm) → IsFile b row around piece p → Into b (row ∷ around) ps
    → Into b (row ∷ around) (ahead (cut (data_reading polarity sort code a) (inside p.nest) piece.header piece.size p) ps)
data_in b row around polarity sorts.File code a piece p ps is rest = go (holds_sections code) where
  content : PortionForm
  content = cut (readings.Sections none) (inside p.nest) piece.header piece.size p

  ends : content.at + length content.bytes ≡ stream_end b (row ∷ around)
  ends =
      let long : length content.bytes ≡ piece.size - piece.header =
      length-cut (readings.Sections none) (inside p.nest) piece.header piece.size p is.lies.header (omega (arith, is.lies.size, is.lies.within)) in
      omega (arith, long, is.lies.header, is.end)

  go : (v : Bool) → Into b (row ∷ around)
      (ahead (cut (if v then readings.Sections none else readings.Run kinds.Data) (inside p.nest) piece.header piece.size p) ps)
  go true =
      put_in b (row ∷ around) content ps (λ before. record {
        found = is.found;
        read = record { stream = inl is.kind; end = ends; levels = is.levels; each = no_odd before content.at };
      }) rest
  go false = run_in b (row ∷ around) kinds.Data (inside p.nest) piece.header piece.size p ps is.found (λ k. never _ k) rest
data_in b row around polarity sorts.Pad code a piece p ps is rest = go (all_are (erased_byte polarity) a) where
  go : (v : Bool) → Into b (row ∷ around)
      (ahead (cut (if v then readings.Leaf kinds.Pad none else readings.Run kinds.PadData) (inside p.nest) piece.header piece.size p) ps)
  go true = leaf_in b (row ∷ around) kinds.Pad (inside p.nest) piece.header piece.size p ps is.found rest
  go false = run_in b (row ∷ around) kinds.PadData (inside p.nest) piece.header piece.size p ps is.found (λ k. never _ k) rest
data_in b row around polarity _ code a piece p ps is rest =
    run_in b (row ∷ around) kinds.Dead (inside p.nest) piece.header piece.size p ps is.found (λ k. never _ k) rest

file_in : (b : List ℕ) (row : Row) (around : List Row) (polarity : Polarity) (piece : Piece) (p : PortionForm) → IsFile b row around piece p
    → Into b (row ∷ around) (file_inside polarity piece p [])
file_in b row around polarity piece p is =
    let filler : List PortionForm = ahead (cut (readings.Leaf kinds.Filler none) (inside p.nest) piece.size piece.span p) [] in
    let a : List ℕ = field piece.header (piece.size - piece.header) p.bytes in
    leaf_in b (row ∷ around) kinds.FileHeader (inside p.nest) 0 piece.header p
    (ahead (cut (data_reading polarity piece.sort piece.code a) (inside p.nest) piece.header piece.size p) filler) is.found
    (data_in b row around polarity piece.sort piece.code a piece p filler is
    (leaf_in b (row ∷ around) kinds.Filler (inside p.nest) piece.size piece.span p [] is.found (λ _. tt)))

piece_in : (b : List ℕ) (volume : Row) (outer : List Row) (layout : Layout) (p : PortionForm)
    → CellsOf (bytes_in b volume) volume.offset layout p → Levels (volume ∷ outer) p → p.nest.found + found_around (volume ∷ outer) ≡ 8
    → IsPiece (length p.bytes) (piece_by layout p.bytes)
    → Into b (row_as (readings.Cells layout) p ∷ volume ∷ outer) (inside_as (readings.Cells layout) p [])
piece_in b volume outer layout p c levels deep lies =
    go (piece_by layout p.bytes).sort (piece_by layout p.bytes) size lies
  where
    size : (piece_by (layout_of (parts_in b volume)) (cells_from b volume p.at)).size ≡ (piece_by layout p.bytes).size
    size =
        ap (λ (l : Layout). (piece_by l (cells_from b volume p.at)).size) (sym c.same)
        ∙ ap (λ (a : List ℕ). (piece_by layout a).size) (cells_are b volume layout p c)

    go : (sort : Sort) (piece : Piece) → (piece_by (layout_of (parts_in b volume)) (cells_from b volume p.at)).size ≡ piece.size
        → IsPiece (length p.bytes) piece
        → Into b (row_of (piece_said sort piece) piece.span p ∷ volume ∷ outer) (piece_inside layout.polarity sort piece p [])
    go sorts.Free piece e lies = λ _. tt
    go sorts.Stub piece e lies = λ _. tt
    go sorts.Lost piece e lies = lost_in b (row_of (piece_said sorts.Lost piece) piece.span p) (volume ∷ outer) piece.span p refl deep
    go sorts.File piece e lies =
        file_in b (row_of (piece_said sorts.File piece) piece.span p) (volume ∷ outer) layout.polarity piece p
        (record { kind = refl; end = ap (λ (n : ℕ). p.at + n) (sym e); found = deep; levels = levels; lies = lies })
    go sorts.Pad piece e lies =
        file_in b (row_of (piece_said sorts.Pad piece) piece.span p) (volume ∷ outer) layout.polarity piece p
        (record { kind = refl; end = ap (λ (n : ℕ). p.at + n) (sym e); found = deep; levels = levels; lies = lies })
    go sorts.Dead piece e lies =
        file_in b (row_of (piece_said sorts.Dead piece) piece.span p) (volume ∷ outer) layout.polarity piece p
        (record { kind = refl; end = ap (λ (n : ℕ). p.at + n) (sym e); found = deep; levels = levels; lies = lies })

-- the cells after the first n bytes of cells
cells_on : (v : List ℕ) (start : ℕ) (layout : Layout) (n : ℕ) (p : PortionForm) → CellsOf v start layout p
    → CellsOf v start layout (cut (readings.Cells layout) p.nest n (length p.bytes) p)
cells_on v start layout n p c = record {
  same = c.same;
  before = c.before + n;
  at = omega (arith, c.at);
  bytes = take_all (length p.bytes - n) (drop n p.bytes) (omega (arith, length-drop n p.bytes))
      ∙ ap (drop n) c.bytes ∙ drop-drop n c.before (cells_by (parts_by v).files (parts_by v).first v);
}

-- ---- sections

-- the body of a section that is not too deep
body_form_in : (b : List ℕ) (around : List Row) (row : Row) (form : BodyForm) (from to : ℕ) (p : PortionForm) → row.kind ≡ kinds.Section
    → row.found ≡ false → row.offset + row.length ≡ p.at + to → from ≤ to → to ≤ length p.bytes → Levels around p
    → p.nest.found + found_around (row ∷ around) ≡ 8 → is_too_deep (inside p.nest) form ≡ false
    → Into b (row ∷ around)
    (ahead (cut (body_reading form) (if is_opened form then opened (inside p.nest) else inside p.nest) from to p) [])
body_form_in b around row form from to p section plain end l u levels deep flat = go form flat where
  count : opened_around (row ∷ around) ≡ suc (opened_around around)
  count = rw (plain, section) refl

  open_levels : (p.nest.levels == 0) ≡ false → (p.nest.levels - 1) + opened_around (row ∷ around) ≡ 8
  open_levels some = less p.nest.levels (opened_around around) (opened_around (row ∷ around)) count some levels where
    less : (n m k : ℕ) → k ≡ suc m → (n == 0) ≡ false → n + m ≡ 8 → (n - 1) + k ≡ 8
    less zero m k is none e = absurd (let bad : true ≡ false = none in cc)
    less (suc n) m k is none e = omega (arith, is, e)

  content : PortionForm
  content = cut (readings.Sections none) (opened (inside p.nest)) from to p

  ends : content.at + length content.bytes ≡ stream_end b (row ∷ around)
  ends =
      let long : length content.bytes ≡ to - from = length-cut (readings.Sections none) (opened (inside p.nest)) from to p l u in
      let all : stream_end b (row ∷ around) ≡ row.offset + row.length = rw section refl in
      omega (arith, long, l, end, all)

  go : (form : BodyForm) → is_too_deep (inside p.nest) form ≡ false → Into b (row ∷ around)
      (ahead (cut (body_reading form) (if is_opened form then opened (inside p.nest) else inside p.nest) from to p) [])
  go forms.Group flat =
      put_in b (row ∷ around) content [] (λ before. record {
        found = deep;
        read = record { stream = inr section; end = ends; levels = open_levels flat; each = no_odd before content.at };
      }) (λ _. tt)
  go forms.Volume flat =
      put_in b (row ∷ around) (cut readings.Volume (opened (inside p.nest)) from to p) []
      (λ _. record { found = deep; read = open_levels flat }) (λ _. tt)
  go forms.Packed flat = run_in b (row ∷ around) kinds.Packed (inside p.nest) from to p [] deep (λ k. never _ k) (λ _. tt)
  go forms.Plain flat = run_in b (row ∷ around) kinds.Body (inside p.nest) from to p [] deep (λ k. never _ k) (λ _. tt)

-- the body of a section that is too deep
body_lost_in : (b : List ℕ) (around : List Row) (row : Row) (from to : ℕ) (p : PortionForm) → row.kind ≡ kinds.Section
    → row.offset + row.length ≡ p.at + to → from ≤ to → to ≤ length p.bytes → p.nest.found + found_around (row ∷ around) ≡ 8
    → IsTooDeep b around row → Into b (row ∷ around) (ahead (cut (readings.Lost (only faults.Depth)) (inside p.nest) from to p) [])
body_lost_in b around row from to p section end l u deep too =
    put_in b (row ∷ around) body [] (λ _. record {
      found = deep;
      read = record {
        kind = faults.Depth;
        some = in_only faults.Depth;
        each = λ k finds. subst (λ (j : FaultKind). Loses j b (row ∷ around) bytes) (sym (in_one k faults.Depth finds))
            (subst (λ (outer : RowKind). LostIn outer faults.Depth b row around bytes) (sym section) (too, ends));
      };
    }) (λ _. tt)
  where
    body : PortionForm
    body = cut (readings.Lost (only faults.Depth)) (inside p.nest) from to p

    bytes : Row
    bytes = row_of (plain_opening kinds.Lost (only faults.Depth)) (length body.bytes) body

    ends : body.at + length body.bytes ≡ row.offset + row.length
    ends =
        let long : length body.bytes ≡ to - from = length-cut (readings.Lost (only faults.Depth)) (inside p.nest) from to p l u in
        omega (arith, long, l, end)

sections_in : (b : List ℕ) (around before : List Row) (odd : Findings) (p : PortionForm) → IsPlaced b p → p.nest.found + found_around around ≡ 8
    → InStream b around before odd p → Into b (row_as (readings.Sections odd) p ∷ around) (sections_inside p [])
sections_in b around before odd p placed deep s = go (begins_section p.bytes) refl where
  form : BodyForm
  form = body_form (kind_at p.bytes) (body_at p.bytes)

  section : Row
  section = row_of (section_opening (kind_at p.bytes) (with_if (is_too_deep p.nest form) faults.Depth odd)) (section_size_at p.bytes) p

  lost : Row
  lost = row_of (plain_opening kinds.Lost (section_findings p.bytes)) (length p.bytes) p

  header : ℕ
  header = section_header_len_at p.bytes

  body : begins_section p.bytes ≡ true → (v : Bool) → is_too_deep p.nest form ≡ v
      → Into b (section ∷ around) (ahead (if v then cut (readings.Lost (only faults.Depth)) (inside p.nest) header (section_size_at p.bytes) p
      else cut (body_reading form) (if is_opened form then opened (inside p.nest) else inside p.nest) header (section_size_at p.bytes) p) [])
  body e true d =
      let lies = section_lies p.bytes e in
      body_lost_in b around section header (section_size_at p.bytes) p refl refl lies.size (omega (arith, lies.next, lies.within)) deep
      (deep_is b around before odd p section placed s refl d)
  body e false d =
      let lies = section_lies p.bytes e in
      body_form_in b around section form header (section_size_at p.bytes) p refl refl refl lies.size
      (omega (arith, lies.next, lies.within)) s.levels deep d

  go : (v : Bool) → begins_section p.bytes ≡ v → Into b ((if v then section else lost) ∷ around) (if v
      then ahead (cut (readings.Leaf kinds.SectionHeader none) (inside p.nest) 0 header p) (ahead (body_portion (inside p.nest) form p) [])
      else lost_inside (length p.bytes) p [])
  go true e =
      leaf_in b (section ∷ around) kinds.SectionHeader (inside p.nest) 0 header p (ahead (body_portion (inside p.nest) form p) []) deep
      (body e (is_too_deep p.nest form) refl)
  go false e = lost_in b lost around (length p.bytes) p refl deep

-- a section that begins at no multiple of 4, before the end, begins where the section before it ends
direct : (n : ℕ) (a : List ℕ) → not (next_section n a % 4 == 0) ≡ true → next_section n a < length a
    → (next_section n a ≡ n) × ((n % 4 == 0) ≡ false)
direct n a odd before = go (not (may_follow (drop (section_end n a) a)) && begins_usual (drop n a)) odd before where
  up : (k : ℕ) → k ≡ up_to_4 n → not (k % 4 == 0) ≡ true → ⊥
  up k is other =
      let none : k % 4 ≡ 0 = omega (arith, is) in
      absurd (let bad : false ≡ true = sym (ap not (eq-eqb (k % 4) 0 none)) ∙ other in cc)

  no_end : (v : Bool) → not ((if v then up_to_4 n else length a) % 4 == 0) ≡ true → (if v then up_to_4 n else length a) < length a → ⊥
  no_end true other l = up (up_to_4 n) refl other
  no_end false other l = omega (arith, l)

  turn : (v : Bool) → not v ≡ true → v ≡ false
  turn false e = refl
  turn true e = absurd (let bad : false ≡ true = e in cc)

  go : (v : Bool) → not ((if v then n else section_end n a) % 4 == 0) ≡ true → (if v then n else section_end n a) < length a
      → ((if v then n else section_end n a) ≡ n) × ((n % 4 == 0) ≡ false)
  go true other l = (refl, turn (n % 4 == 0) other)
  go false other l = absurd (no_end (nat_le (up_to_4 n) (length a)) other l)

-- the sections after the first
sections_on : (b : List ℕ) (around before : List Row) (odd : Findings) (p : PortionForm) (ps : List PortionForm) → IsPlaced b p
    → p.nest.found + found_around around ≡ 8 → InStream b around before odd p → Into b around ps
    → AllIn b around (row_as (readings.Sections odd) p ∷ before) (after_as (readings.Sections odd) p ps)
sections_on b around before odd p ps placed deep s rest = go (begins_section p.bytes) refl where
  size : ℕ
  size = section_size_at p.bytes

  next : ℕ
  next = next_at p.bytes

  set : Findings
  set = place_findings next (length p.bytes)

  section : Row
  section = row_of (section_opening (kind_at p.bytes)
      (with_if (is_too_deep p.nest (body_form (kind_at p.bytes) (body_at p.bytes))) faults.Depth odd)) size p

  lost : Row
  lost = row_of (plain_opening kinds.Lost (section_findings p.bytes)) (length p.bytes) p

  filler : PortionForm
  filler = cut (readings.Leaf kinds.Filler none) p.nest size next p

  more : PortionForm
  more = cut (readings.Sections set) p.nest next (length p.bytes) p

  -- a finding about the place of the next section, and that it begins where this section ends
  place : (kind : FaultKind) → has_finding kind set ≡ true → (kind ≡ faults.SectionSize) × (next ≡ size) × ((size % 4 == 0) ≡ false)
  place kind is = elim (in_if kind faults.SectionSize _ none is) [
    | inl nothing ↦ no_kind _ kind nothing
    | inr found ↦
        let parts = and_split _ _ found.0 in
        let ends = direct size p.bytes parts.0 (ltb-true _ _ parts.1) in (found.1, ends.0, ends.1)
  ]

  follows : (kind : FaultKind) → has_finding kind set ≡ true → (kind ≡ faults.SectionSize) × EndsOdd (section ∷ before) more.at
  follows kind is =
      let found = place kind is in
      (found.0, (refl, ap (λ (n : ℕ). p.at + n) (sym found.1), found.2))

  ends : begins_section p.bytes ≡ true → more.at + length more.bytes ≡ stream_end b around
  ends e =
      let lies = section_lies p.bytes e in
      let long : length more.bytes ≡ length p.bytes - next =
      length-cut (readings.Sections set) p.nest next (length p.bytes) p lies.within (omega arith) in
      omega (arith, long, lies.within, s.end)

  -- after filler there is no such finding
  apart : begins_section p.bytes ≡ true → 0 < length filler.bytes → (rows : List Row) (kind : FaultKind) → has_finding kind set ≡ true
      → (kind ≡ faults.SectionSize) × EndsOdd rows more.at
  apart e some rows kind is =
      let lies = section_lies p.bytes e in
      let long : length filler.bytes ≡ next - size =
      length-cut (readings.Leaf kinds.Filler none) p.nest size next p lies.next lies.within in
      absurd (omega (arith, some, long, (place kind is).1))

  go : (v : Bool) → begins_section p.bytes ≡ v
      → AllIn b around ((if v then section else lost) ∷ before) (if v then ahead filler (ahead more ps) else ps)
  go true e =
      ahead_by (AllIn b around (section ∷ before)) filler (ahead more ps)
      (λ some. (
        record { found = deep; read = refl },
        put_in b around more ps (λ rows. record {
          found = deep;
          read = record { stream = s.stream; end = ends e; levels = s.levels; each = apart e some rows };
        }) rest,
      ))
      (λ _. put_first b around (section ∷ before) more ps (λ _. record {
        found = deep;
        read = record { stream = s.stream; end = ends e; levels = s.levels; each = follows };
      }) rest)
  go false e = rest (lost ∷ before)

-- ---- a portion

-- the portions in the first row of a portion
inside_in : (b : List ℕ) (around before : List Row) (reading : Reading) (p : PortionForm) → IsPlaced b p → FitsAs reading p.nest (length p.bytes)
    → p.nest.found + found_around around ≡ 8 → InAs b around before reading p → Into b (row_as reading p ∷ around) (inside_as reading p [])
inside_in b around before (readings.Leaf kind findings) p placed fit deep read = λ _. tt
inside_in b around before (readings.Run kind) p placed fit deep read = run_inside_in b around kind p placed deep
inside_in b around before (readings.Lost findings) p placed fit deep read =
    lost_in b (row_as (readings.Lost findings) p) around (length p.bytes) p refl deep
inside_in b around before readings.Volume p placed fit deep read =
    volume_in b (row_as readings.Volume p) around p (record {
      kind = refl;
      bytes = sym placed.bytes;
      offset = refl;
      long = refl;
      found = deep;
      levels = read;
      lie = parts_lie p.bytes fit.0;
    })
inside_in b around before (readings.Cells layout) p placed fit deep (v, levels) =
    subst (λ (rows : List Row). Into b (row_as (readings.Cells layout) p ∷ rows) (inside_as (readings.Cells layout) p [])) (sym v.is)
    (piece_in b v.volume v.outer layout p v.cells (subst (λ (rows : List Row). Levels rows p) v.is levels)
    (subst (λ (rows : List Row). p.nest.found + found_around rows ≡ 8) v.is deep) (piece_lies layout p.bytes placed.some fit.0))
inside_in b around before (readings.Sections odd) p placed fit deep read = sections_in b around before odd p placed deep read

-- the portions after the first row of a portion
after_in : (b : List ℕ) (around before : List Row) (reading : Reading) (p : PortionForm) (ps : List PortionForm) → IsPlaced b p
    → p.nest.found + found_around around ≡ 8 → InAs b around before reading p → Into b around ps
    → AllIn b around (row_as reading p ∷ before) (after_as reading p ps)
after_in b around before (readings.Leaf kind findings) p ps placed deep read rest = rest (_ ∷ before)
after_in b around before (readings.Run kind) p ps placed deep read rest =
    run_in b around kind p.nest (run_row kind p).length (length p.bytes) p ps deep read rest (row_as (readings.Run kind) p ∷ before)
after_in b around before (readings.Lost findings) p ps placed deep read rest = rest (_ ∷ before)
after_in b around before readings.Volume p ps placed deep read rest = rest (_ ∷ before)
after_in b around before (readings.Cells layout) p ps placed deep (v, levels) rest =
    let n : ℕ = (piece_by layout p.bytes).span in
    put_in b around (cut (readings.Cells layout) p.nest n (length p.bytes) p) ps (λ _. record {
      found = deep;
      read = (
        record {
          volume = v.volume;
          outer = v.outer;
          is = v.is;
          kind = v.kind;
          cells = cells_on (bytes_in b v.volume) v.volume.offset layout n p v.cells;
        },
        levels,
      );
    }) rest (row_as (readings.Cells layout) p ∷ before)
after_in b around before (readings.Sections odd) p ps placed deep read rest = sections_on b around before odd p ps placed deep read rest

-- ---- reasons

-- lost cells have a finding
lost_reason : (layout : Layout) (r : List ℕ) → (piece_by layout r).sort ≡ sorts.Lost
    → (kind : FaultKind) × (has_finding kind (piece_by layout r).findings ≡ true)
unfolding piece_by space_piece plain_piece sound_piece damaged_piece file_piece sort_by
lost_reason layout r = go (may_be_header layout.polarity r) where
  Reason : Piece → Type 0
  Reason piece = piece.sort ≡ sorts.Lost → (kind : FaultKind) × (has_finding kind piece.findings ≡ true)

  space : (all more : Bool) → Reason (if all then plain_piece sorts.Free (length r) none
      else (if more then plain_piece sorts.Free (leading_count (erased_byte layout.polarity) r / 8 * 8) (only faults.FreeSpace)
      else plain_piece sorts.Lost (lost_len layout r) (only faults.FreeSpace)))
  space true more e = let bad : sorts.Free ≡ sorts.Lost = e in cc
  space false true e = let bad : sorts.Free ≡ sorts.Lost = e in cc
  space false false e = (faults.FreeSpace, in_only faults.FreeSpace)

  file : (alive pad : Bool) → (if alive then (if pad then sorts.Pad else sorts.File) else sorts.Dead) ≡ sorts.Lost → ⊥
  file true true e = let bad : sorts.Pad ≡ sorts.Lost = e in cc
  file true false e = let bad : sorts.File ≡ sorts.Lost = e in cc
  file false pad e = let bad : sorts.Dead ≡ sorts.Lost = e in cc

  sound : (stub : Bool) → Reason (if stub then plain_piece sorts.Stub (file_header_len_at r) none
      else file_piece layout (sizes_by layout.files r) none r)
  sound true e = let bad : sorts.Stub ≡ sorts.Lost = e in cc
  sound false e = absurd (file _ _ e)

  damaged : (kind : FaultKind) (o : Option Sizes) → Reason (piece_with o kind layout r)
  damaged kind None e = (kind, in_only kind)
  damaged kind (Some sizes) e = absurd (file _ _ e)

  headed : (o : Option FaultKind) → Reason (headed_piece o layout r)
  headed None = sound (is_stub_state (state_of layout.polarity (slice_index r 23)))
  headed (Some kind) = damaged kind (read_sizes layout (sizes_by layout.files r) r)

  go : (t : Bool) → Reason (if t then headed_piece (strict_kind layout r) layout r else space_piece layout r)
  go true = headed (strict_kind layout r)
  go false = space _ _

-- a leaf row of this kind is not unread
leaf_reason : (around : List Row) (row : Row) (kind : RowKind) → is_leaf kind ≡ true → (is_unread kind ≡ true → IsInLost around)
    → ReasonAs kind around row
leaf_reason around row kinds.Lost e inner = never _ e
leaf_reason around row kinds.Unread e inner = inl (inner refl)
leaf_reason around row _ e inner = tt

not_searched : (kind : RowKind) → is_searched kind ≡ false → is_unread kind ≡ true → ⊥
not_searched kinds.Unread e u = up_is_not_down _ refl e
not_searched _ e u = never _ u

first_reason : (b : List ℕ) (around before : List Row) (reading : Reading) (p : PortionForm) → ReadsAs reading (length p.bytes)
    → FitsAs reading p.nest (length p.bytes) → InAs b around before reading p → ReasonAs (row_as reading p).kind around (row_as reading p)
first_reason b around before (readings.Leaf kind findings) p reads fit read =
    leaf_reason around (row_as (readings.Leaf kind findings) p) kind fit (λ u. absurd (not_searched kind reads u))
first_reason b around before (readings.Run kind) p reads fit read =
    run_by (λ (row : Row). ReasonAs row.kind around row) kind p
    (leaf_reason around (row_of (plain_opening kind none) (first_start p.bytes) p) kind (searched_leaf kind reads) read)
    (λ _ _. inr (in_only faults.Depth)) (λ _ _. tt)
first_reason b around before (readings.Lost findings) p reads fit read = (read.kind, read.some)
first_reason b around before readings.Volume p reads fit read = tt
first_reason b around before (readings.Cells layout) p reads fit read = go (piece_by layout p.bytes).sort (piece_by layout p.bytes) (lost_reason layout p.bytes) where
  go : (sort : Sort) (piece : Piece) → (sort ≡ sorts.Lost → (kind : FaultKind) × (has_finding kind piece.findings ≡ true))
      → ReasonAs (row_of (piece_said sort piece) piece.span p).kind around (row_of (piece_said sort piece) piece.span p)
  go sorts.Free piece e = tt
  go sorts.Stub piece e = tt
  go sorts.Lost piece e = e refl
  go sorts.File piece e = tt
  go sorts.Pad piece e = tt
  go sorts.Dead piece e = tt
first_reason b around before (readings.Sections odd) p reads fit read = go (begins_section p.bytes) (nat_lt (length p.bytes) 4) where
  deep : Bool
  deep = is_too_deep p.nest (body_form (kind_at p.bytes) (body_at p.bytes))

  row : Bool → Bool → Row
  row v few = if v then row_of (section_opening (kind_at p.bytes) (with_if deep faults.Depth odd)) (section_size_at p.bytes) p
      else row_of (plain_opening kinds.Lost (if few then only faults.SectionTail else only faults.SectionSize)) (length p.bytes) p

  go : (v few : Bool) → ReasonAs (row v few).kind around (row v few)
  go true few = tt
  go false true = (faults.SectionTail, in_only faults.SectionTail)
  go false false = (faults.SectionSize, in_only faults.SectionSize)

-- ---- all rows

all_honest : (b : List ℕ) (around before : List Row) (f : Forest) (ps : List PortionForm) → Placed b ps → AllByRecursion Fits ps
    → AllIn b around before ps → Reads f ps → IsHonest b around before f
all_honest b around before Bare ps all fits into r = tt
all_honest b around before (Tree row below after) [] all fits into r = absurd r
all_honest b around before (Tree row below after) (p ∷ ps) (placed, reads, apart, rest) fits (here, more) (e, inner, later) =
    let part = parted p ps fits in
    let first : Row = row_as p.reading p in (
      subst (λ (x : Row). IsFounded b around before x) (sym e) (first_founded b around before p.reading p placed here.found here.read),
      subst (λ (x : Row). ReasonAs x.kind around x) (sym e) (first_reason b around before p.reading p reads fits.0.2 here.read),
      subst (λ (x : Row). IsHonest b (x ∷ around) [] below) (sym e)
          (all_honest b (first ∷ around) [] below (inside_as p.reading p []) (inside_placed b p.reading p placed reads) part.inside
          (inside_in b around before p.reading p placed fits.0.2 here.found here.read []) inner),
      subst (λ (x : Row). IsHonest b around (x ∷ before) after) (sym e)
          (all_honest b around (first ∷ before) after (after_as p.reading p ps) (after_placed b p.reading p ps placed reads apart rest) part.after
          (after_in b around before p.reading p ps placed here.found here.read more) later),
    )

-- the survey of bytes that are read in this way is honest, if the bytes lie in these rows
whole_honest : (reading : Reading) (b : List ℕ) (around : List Row) → ReadsAs reading (length b)
    → ((before : List Row) → In b around before (whole_portion reading b)) → AllByRecursion Fits (ahead (whole_portion reading b) [])
    → (f : Forest) → Reads f (ahead (whole_portion reading b) []) → IsHonest b around [] f
whole_honest reading b around asks one fits f r =
    all_honest b around [] f (ahead (whole_portion reading b) []) (whole_placed reading b asks) fits
    (put_in b around (whole_portion reading b) [] one (λ _. tt) []) r

pub image_honest : (b : List ℕ) → AllByRecursion Fits (whole_image b) → (f : Forest) → Reads f (whole_image b) → IsHonest b [] [] f
image_honest b = whole_honest (readings.Run kinds.Gap) b [] refl (λ _. record { found = refl; read = λ k. never _ k })

-- a stream of sections lies in a row for all of its bytes
pub sections_honest : (b : List ℕ) → AllByRecursion Fits (whole_sections b) → (f : Forest) → Reads f (whole_sections b)
    → IsHonest b (whole_stream b ∷ []) [] f
sections_honest b = whole_honest (readings.Sections none) b (whole_stream b ∷ []) tt (λ _. record {
  found = refl;
  read = record { stream = inl refl; end = refl; levels = refl; each = λ k. no_kind _ k };
})
