-- Where portions lie in an image, and that no run follows another directly. The steps:
-- 1. Bytes that are cut from a portion lie in the image, at their offset (`cut_bytes`).
-- 2. What a step puts ahead of placed portions is placed, if a run is not put ahead of a run (`put_run`, `put_other`).
-- 3. So the portions in the first row of a portion are placed, and the portions after this row (`inside_placed`,
--    `after_placed`).
use Rattle.std.proofs.Common.{◌≡◌, ◌≤◌, ◌<◌, ◌||◌, ◌==◌, ℕ, zero, suc, ◌+◌, ◌-◌, ◌⊎◌, inl, inr, List, [], ◌∷◌, Bool, true, false}
use Rattle.std.proofs.Common.{length, take, drop, drop-drop, take_all, nat_lt, ltb-false, if◌then◌else◌, refl, sym, ap, ◌∙◌, subst, arith}
use Rattle.fv_base.specs.Words.{all_are, erased_byte, field}
use Rattle.fv_base.proofs.Laws.{cases_lt}
use Rattle.fv_base.specs.declared.fault.FaultKind.TheVariants as faults
use Rattle.fv_base.specs.declared.flash.Polarity.{Polarity}
use Rattle.fv_section.specs.Words.{section_header_len_at, section_size_at}
use Rattle.fv_tree.specs.Words.{holds_sections}
use Rattle.fv_survey.specs.declared.parts.Parts.{Parts}
use Rattle.fv_survey.specs.declared.pieces.Piece.{Piece}
use Rattle.fv_survey.specs.declared.pieces.Sort.{Sort}
use Rattle.fv_survey.specs.declared.pieces.Sort.TheVariants as sorts
use Rattle.fv_survey.specs.declared.portion.Nesting.{Nesting}
use Rattle.fv_survey.specs.declared.portion.Reading.{Reading}
use Rattle.fv_survey.specs.declared.portion.Reading.TheVariants as readings
use Rattle.fv_survey.specs.declared.row.RowKind.{RowKind}
use Rattle.fv_survey.specs.declared.row.RowKind.TheVariants as kinds
use Rattle.fv_survey.specs.declared.section_step.BodyForm.{BodyForm}
use Rattle.fv_survey.specs.declared.section_step.BodyForm.TheVariants as forms
use Rattle.fv_survey.specs.declared.systems.Files.{Files}
use Rattle.fv_survey.specs.declared.systems.Files.TheVariants as files
use Rattle.fv_survey.specs.Words.{PortionForm, after_as, ahead, begins_section, body_at, body_form, body_inside, body_portion}
use Rattle.fv_survey.specs.Words.{body_reading, cells_end, cut, data_reading, file_inside, first_start, found_volume, inside, inside_as}
use Rattle.fv_survey.specs.Words.{is_opened, is_searched, is_too_deep, kind_at, layout_of, lost_inside, may_begin, next_at, none, only}
use Rattle.fv_survey.specs.Words.{opened, parts_by, parts_inside, piece_by, piece_inside, place_findings, run_inside, run_row, searched}
use Rattle.fv_survey.specs.Words.{sections_inside, volume_end, volume_inside, whole_portion}
use Rattle.fv_survey.specs.inner.Bounds.{PartsLie}
use Rattle.fv_survey.proofs.FittingLaws.{ahead_by}
use Rattle.fv_survey.proofs.PortionLaws.{length-cut}
use Rattle.fv_survey.proofs.RuleLaws.{volume_end_lies, parts_lie, volume_long}
use Rattle.fv_survey.proofs.StartLaws.{begins_long, start_begins}

-- a run: bytes without a structure
abbrev pub is_run : Reading → Bool
is_run (readings.Run kind) = true
is_run _ = false

-- what the reading asks of n bytes: only the leaf rows of runs are searched
abbrev pub ReadsAs : Reading → ℕ → Type 0
ReadsAs (readings.Leaf kind findings) n = is_searched kind ≡ false
ReadsAs (readings.Run kind) n = is_searched kind ≡ true
ReadsAs readings.Volume n = 56 ≤ n
ReadsAs _ n = Unit {0}

-- the portion has bytes, and they are the bytes of the image b at its offset
pub record IsPlaced (b : List ℕ) (p : PortionForm) : Type 0 where
  pub some : 0 < length p.bytes
  pub bytes : p.bytes ≡ field p.at (length p.bytes) b

-- the portions do not begin with a run
abbrev pub NoRun : List PortionForm → Type 0
NoRun [] = Unit {0}
NoRun (p ∷ ps) = is_run p.reading ≡ false

-- the portions lie in the image b, each is as its reading asks, and no run follows another directly
abbrev pub Placed : List ℕ → List PortionForm → Type 0
Placed b [] = Unit {0}
Placed b (p ∷ ps) = IsPlaced b p × ReadsAs p.reading (length p.bytes) × (is_run p.reading ≡ true → NoRun ps) × Placed b ps

-- ---- what is cut from a portion

front : (k n : ℕ) (l : List ℕ) → take k (take n l) ≡ take (length (take k (take n l))) l
front zero n l = refl
front (suc k) zero l = refl
front (suc k) (suc n) [] = refl
front (suc k) (suc n) (x ∷ l) = ap (λ r. x ∷ r) (front k n l)

middle : (from k n : ℕ) (l : List ℕ) → take k (drop from (take n l)) ≡ take (length (take k (drop from (take n l)))) (drop from l)
middle zero k n l = front k n l
middle (suc from) zero zero l = refl
middle (suc from) (suc k) zero l = refl
middle (suc from) zero (suc n) [] = refl
middle (suc from) (suc k) (suc n) [] = refl
middle (suc from) k (suc n) (x ∷ l) = middle from k n l

-- a field of a field
field_cut : (a b : List ℕ) (at n from k : ℕ) → a ≡ field at n b → field from k a ≡ field (at + from) (length (field from k a)) b
field_cut a b at n from k e =
    subst (λ (l : List ℕ). field from k l ≡ field (at + from) (length (field from k l)) b) (sym e)
    (middle from k n (drop at b) ∙ ap (take (length (field from k (field at n b)))) (drop-drop from at b))

pub cut_bytes : (b : List ℕ) (reading : Reading) (nest : Nesting) (from to : ℕ) (p : PortionForm) → IsPlaced b p
    → (cut reading nest from to p).bytes ≡ field (p.at + from) (length (cut reading nest from to p).bytes) b
cut_bytes b reading nest from to p placed = field_cut p.bytes b p.at (length p.bytes) from (to - from) placed.bytes

-- ---- what is put ahead of portions

put_run : (b : List ℕ) (kind : RowKind) (nest : Nesting) (from to : ℕ) (p : PortionForm) (ps : List PortionForm) → IsPlaced b p
    → is_searched kind ≡ true → (0 < length (cut (readings.Run kind) nest from to p).bytes → NoRun ps) → Placed b ps
    → Placed b (ahead (cut (readings.Run kind) nest from to p) ps)
put_run b kind nest from to p ps placed e apart rest =
    ahead_by (Placed b) (cut (readings.Run kind) nest from to p) ps
    (λ s. (record { some = s; bytes = cut_bytes b (readings.Run kind) nest from to p placed }, e, λ _. apart s, rest)) (λ _. rest)

put_other : (b : List ℕ) (reading : Reading) (nest : Nesting) (from to : ℕ) (p : PortionForm) (ps : List PortionForm) → IsPlaced b p
    → is_run reading ≡ false → ReadsAs reading (length (cut reading nest from to p).bytes) → Placed b ps
    → Placed b (ahead (cut reading nest from to p) ps)
put_other b reading nest from to p ps placed e reads rest =
    ahead_by (Placed b) (cut reading nest from to p) ps
    (λ s. (record { some = s; bytes = cut_bytes b reading nest from to p placed }, reads, λ r. absurd (no r), rest)) (λ _. rest)
  where
    no : is_run reading ≡ true → ⊥
    no r = let bad : true ≡ false = sym r ∙ e in cc

put_leaf : (b : List ℕ) (kind : RowKind) (nest : Nesting) (from to : ℕ) (p : PortionForm) (ps : List PortionForm) → IsPlaced b p
    → is_searched kind ≡ false → Placed b ps → Placed b (ahead (cut (readings.Leaf kind none) nest from to p) ps)
put_leaf b kind nest from to p ps placed e rest = put_other b (readings.Leaf kind none) nest from to p ps placed refl e rest

-- a portion that is not a run, ahead of portions that do not begin with a run; and one that has bytes, ahead of any
no_run_put : (p : PortionForm) (ps : List PortionForm) → is_run p.reading ≡ false → NoRun ps → NoRun (ahead p ps)
no_run_put p ps e n = ahead_by NoRun p ps (λ _. e) (λ _. n)

no_run_some : (p : PortionForm) (ps : List PortionForm) → is_run p.reading ≡ false → 0 < length p.bytes → NoRun (ahead p ps)
no_run_some p ps e some = ahead_by NoRun p ps (λ _. e) (λ z. absurd (omega (arith, some, z)))

-- ---- lost bytes and volumes

lost_placed : (b : List ℕ) (n : ℕ) (p : PortionForm) → IsPlaced b p → Placed b (lost_inside n p [])
lost_placed b n p placed = put_run b kinds.Unread (inside p.nest) 0 n p [] placed refl (λ _. tt) tt

cells_placed : (b : List ℕ) (nest : Nesting) (parts : Parts) (p : PortionForm) → IsPlaced b p
    → Placed b (body_inside files.Ffs2 nest parts p [])
cells_placed b nest parts p placed =
    let end : ℕ = cells_end parts.first (length p.bytes) in
    let tail = cut (readings.Lost (only faults.Length)) nest end (length p.bytes) p in
    put_other b (readings.Cells (layout_of parts)) nest parts.first end p (ahead tail []) placed refl tt
    (put_other b (readings.Lost (only faults.Length)) nest end (length p.bytes) p [] placed refl tt tt)

body_placed : (b : List ℕ) (f : Files) (nest : Nesting) (parts : Parts) (p : PortionForm) → IsPlaced b p
    → Placed b (body_inside f nest parts p [])
body_placed b files.Store nest parts p placed =
    put_run b kinds.Store nest parts.first (length p.bytes) p [] placed refl (λ _. tt) tt
body_placed b files.Unknown nest parts p placed =
    put_other b (readings.Lost (only faults.FileSystem)) nest parts.first (length p.bytes) p [] placed refl tt tt
body_placed b files.Ffs1 nest parts p placed = cells_placed b nest parts p placed
body_placed b files.Ffs2 nest parts p placed = cells_placed b nest parts p placed
body_placed b files.Ffs3 nest parts p placed = cells_placed b nest parts p placed

-- if there are bytes between the header and the extended header, the extended header has bytes
ext_some : (parts : Parts) (nest : Nesting) (p : PortionForm) → PartsLie (length p.bytes) parts
    → 0 < length (cut (readings.Run kinds.Between) nest parts.header parts.ext p).bytes
    → 0 < length (cut (readings.Leaf kinds.ExtHeader none) nest parts.ext parts.ext_end p).bytes
ext_some parts nest p lie some = go (cases_lt parts.ext parts.ext_end) where
  before : length (cut (readings.Run kinds.Between) nest parts.header parts.ext p).bytes ≡ parts.ext - parts.header
  before =
      length-cut (readings.Run kinds.Between) nest parts.header parts.ext p lie.ext (omega (arith, lie.end, lie.first, lie.within))

  long : length (cut (readings.Leaf kinds.ExtHeader none) nest parts.ext parts.ext_end p).bytes ≡ parts.ext_end - parts.ext
  long = length-cut (readings.Leaf kinds.ExtHeader none) nest parts.ext parts.ext_end p lie.end (omega (arith, lie.first, lie.within))

  go : (parts.ext < parts.ext_end) ⊎ (parts.ext_end ≤ parts.ext)
      → 0 < length (cut (readings.Leaf kinds.ExtHeader none) nest parts.ext parts.ext_end p).bytes
  go (inl l) = omega (arith, long, l)
  go (inr l) = absurd (omega (arith, before, some, lie.bare (omega (arith, l, lie.end))))

parts_placed : (b : List ℕ) (nest : Nesting) (parts : Parts) (p : PortionForm) → IsPlaced b p → PartsLie (length p.bytes) parts
    → Placed b (parts_inside nest parts p [])
parts_placed b nest parts p placed lie =
    let body : List PortionForm = body_inside parts.files nest parts p [] in
    let filler : List PortionForm = ahead (cut (readings.Leaf kinds.Filler none) nest parts.ext_end parts.first p) body in
    let ext : PortionForm = cut (readings.Leaf kinds.ExtHeader none) nest parts.ext parts.ext_end p in
    let between : PortionForm = cut (readings.Run kinds.Between) nest parts.header parts.ext p in
    put_leaf b kinds.VolumeHeader nest 0 parts.header p (ahead between (ahead ext filler)) placed refl
    (put_run b kinds.Between nest parts.header parts.ext p (ahead ext filler) placed refl
    (λ s. no_run_some ext filler refl (ext_some parts nest p lie s))
    (put_leaf b kinds.ExtHeader nest parts.ext parts.ext_end p filler placed refl
    (put_leaf b kinds.Filler nest parts.ext_end parts.first p body placed refl (body_placed b parts.files nest parts p placed))))

volume_placed : (b : List ℕ) (p : PortionForm) → IsPlaced b p → 56 ≤ length p.bytes → Placed b (volume_inside p [])
volume_placed b p placed least = parts_placed b (inside p.nest) (parts_by p.bytes) p placed (parts_lie p.bytes least)

-- ---- bytes without a structure

-- a volume may begin with the bytes, if no bytes come before the first place at which one may begin
pub begins : (a : List ℕ) → 0 < length a → first_start a ≡ 0 → may_begin a ≡ true
begins a some e = rw e at (start_begins a (omega (arith, some, e)))

found_placed : (b : List ℕ) (p : PortionForm) → IsPlaced b p → first_start p.bytes ≡ 0
    → IsPlaced b (found_volume p) × 56 ≤ length (found_volume p).bytes
found_placed b p placed e =
    let lies = volume_end_lies p.bytes (begins_long p.bytes (begins p.bytes placed.some e)) in
    let long = length-cut readings.Volume (searched p.nest) 0 (volume_end p.bytes) p (omega arith) lies.1 in
    let least : 56 ≤ length (found_volume p).bytes = omega (arith, long, lies.0) in (
      record { some = omega (arith, least); bytes = cut_bytes b readings.Volume (searched p.nest) 0 (volume_end p.bytes) p placed },
      least,
    )

run_placed : (b : List ℕ) (p : PortionForm) → IsPlaced b p → Placed b (run_inside p [])
run_placed b p placed = go (nat_lt 0 (first_start p.bytes)) (p.nest.found == 0) refl where
  go : (v w : Bool) → nat_lt 0 (first_start p.bytes) ≡ v → Placed b (if v || w then [] else volume_inside (found_volume p) [])
  go true w e = tt
  go false true e = tt
  go false false e =
      let found = found_placed b p placed (omega (arith, ltb-false 0 (first_start p.bytes) e)) in
      volume_placed b (found_volume p) found.0 found.1

-- ---- cells

-- the data of a file, ahead of other portions
data_placed : (b : List ℕ) (polarity : Polarity) (sort : Sort) (code : ℕ) (a : List ℕ) (nest : Nesting) (from to : ℕ) (p : PortionForm)
    (ps : List PortionForm) → IsPlaced b p → NoRun ps → Placed b ps
    → Placed b (ahead (cut (data_reading polarity sort code a) nest from to p) ps)
data_placed b polarity sorts.File code a nest from to p ps placed n rest = go (holds_sections code) where
  go : (v : Bool) → Placed b (ahead (cut (if v then readings.Sections none else readings.Run kinds.Data) nest from to p) ps)
  go true = put_other b (readings.Sections none) nest from to p ps placed refl tt rest
  go false = put_run b kinds.Data nest from to p ps placed refl (λ _. n) rest
data_placed b polarity sorts.Pad code a nest from to p ps placed n rest = go (all_are (erased_byte polarity) a) where
  go : (v : Bool) → Placed b (ahead (cut (if v then readings.Leaf kinds.Pad none else readings.Run kinds.PadData) nest from to p) ps)
  go true = put_leaf b kinds.Pad nest from to p ps placed refl rest
  go false = put_run b kinds.PadData nest from to p ps placed refl (λ _. n) rest
data_placed b polarity _ code a nest from to p ps placed n rest = put_run b kinds.Dead nest from to p ps placed refl (λ _. n) rest

file_placed : (b : List ℕ) (polarity : Polarity) (piece : Piece) (p : PortionForm) → IsPlaced b p
    → Placed b (file_inside polarity piece p [])
file_placed b polarity piece p placed =
    let filler : PortionForm = cut (readings.Leaf kinds.Filler none) (inside p.nest) piece.size piece.span p in
    let a : List ℕ = field piece.header (piece.size - piece.header) p.bytes in
    let content : PortionForm = cut (data_reading polarity piece.sort piece.code a) (inside p.nest) piece.header piece.size p in
    put_leaf b kinds.FileHeader (inside p.nest) 0 piece.header p (ahead content (ahead filler [])) placed refl
    (data_placed b polarity piece.sort piece.code a (inside p.nest) piece.header piece.size p (ahead filler []) placed
    (no_run_put filler [] refl tt) (put_leaf b kinds.Filler (inside p.nest) piece.size piece.span p [] placed refl tt))

piece_placed : (b : List ℕ) (polarity : Polarity) (sort : Sort) (piece : Piece) (p : PortionForm) → IsPlaced b p
    → Placed b (piece_inside polarity sort piece p [])
piece_placed b polarity sorts.Free piece p placed = tt
piece_placed b polarity sorts.Stub piece p placed = tt
piece_placed b polarity sorts.Lost piece p placed = lost_placed b piece.span p placed
piece_placed b polarity sorts.File piece p placed = file_placed b polarity piece p placed
piece_placed b polarity sorts.Pad piece p placed = file_placed b polarity piece p placed
piece_placed b polarity sorts.Dead piece p placed = file_placed b polarity piece p placed

-- ---- sections

body_put : (b : List ℕ) (form : BodyForm) (nest : Nesting) (from to : ℕ) (p : PortionForm) → IsPlaced b p
    → (form ≡ forms.Volume → 56 ≤ length (field from (to - from) p.bytes)) → Placed b (ahead (cut (body_reading form) nest from to p) [])
body_put b forms.Group nest from to p placed least = put_other b (readings.Sections none) nest from to p [] placed refl tt tt
body_put b forms.Volume nest from to p placed least = put_other b readings.Volume nest from to p [] placed refl (least refl) tt
body_put b forms.Packed nest from to p placed least = put_run b kinds.Packed nest from to p [] placed refl (λ _. tt) tt
body_put b forms.Plain nest from to p placed least = put_run b kinds.Body nest from to p [] placed refl (λ _. tt) tt

body_portion_placed : (b : List ℕ) (nest : Nesting) (p : PortionForm) → IsPlaced b p
    → Placed b (ahead (body_portion nest (body_form (kind_at p.bytes) (body_at p.bytes)) p) [])
body_portion_placed b nest p placed = go (is_too_deep nest form) where
  form : BodyForm
  form = body_form (kind_at p.bytes) (body_at p.bytes)

  header : ℕ
  header = section_header_len_at p.bytes

  size : ℕ
  size = section_size_at p.bytes

  deeper : Nesting
  deeper = if is_opened form then opened nest else nest

  go : (v : Bool) → Placed b (ahead (if v then cut (readings.Lost (only faults.Depth)) nest header size p
      else cut (body_reading form) deeper header size p) [])
  go true = put_other b (readings.Lost (only faults.Depth)) nest header size p [] placed refl tt tt
  go false = body_put b form deeper header size p placed (volume_long (kind_at p.bytes) (body_at p.bytes))

sections_placed : (b : List ℕ) (p : PortionForm) → IsPlaced b p → Placed b (sections_inside p [])
sections_placed b p placed = go (begins_section p.bytes) where
  body : PortionForm
  body = body_portion (inside p.nest) (body_form (kind_at p.bytes) (body_at p.bytes)) p

  go : (v : Bool) → Placed b (if v
      then ahead (cut (readings.Leaf kinds.SectionHeader none) (inside p.nest) 0 (section_header_len_at p.bytes) p) (ahead body [])
      else lost_inside (length p.bytes) p [])
  go true =
      put_leaf b kinds.SectionHeader (inside p.nest) 0 (section_header_len_at p.bytes) p (ahead body []) placed refl
      (body_portion_placed b (inside p.nest) p placed)
  go false = lost_placed b (length p.bytes) p placed

-- ---- a portion

-- the portions in the first row of a portion
pub inside_placed : (b : List ℕ) (reading : Reading) (p : PortionForm) → IsPlaced b p → ReadsAs reading (length p.bytes)
    → Placed b (inside_as reading p [])
inside_placed b (readings.Leaf kind findings) p placed reads = tt
inside_placed b (readings.Run kind) p placed reads = run_placed b p placed
inside_placed b (readings.Lost findings) p placed reads = lost_placed b (length p.bytes) p placed
inside_placed b readings.Volume p placed reads = volume_placed b p placed reads
inside_placed b (readings.Cells layout) p placed reads =
    piece_placed b layout.polarity (piece_by layout p.bytes).sort (piece_by layout p.bytes) p placed
inside_placed b (readings.Sections odd) p placed reads = sections_placed b p placed

-- the portions after the first row of a portion
pub after_placed : (b : List ℕ) (reading : Reading) (p : PortionForm) (ps : List PortionForm) → IsPlaced b p
    → ReadsAs reading (length p.bytes) → (is_run reading ≡ true → NoRun ps) → Placed b ps → Placed b (after_as reading p ps)
after_placed b (readings.Leaf kind findings) p ps placed reads apart rest = rest
after_placed b (readings.Run kind) p ps placed reads apart rest =
    put_run b kind p.nest (run_row kind p).length (length p.bytes) p ps placed reads (λ _. apart refl) rest
after_placed b (readings.Lost findings) p ps placed reads apart rest = rest
after_placed b readings.Volume p ps placed reads apart rest = rest
after_placed b (readings.Cells layout) p ps placed reads apart rest =
    put_other b (readings.Cells layout) p.nest (piece_by layout p.bytes).span (length p.bytes) p ps placed refl tt rest
after_placed b (readings.Sections odd) p ps placed reads apart rest = go (begins_section p.bytes) where
  next : Reading
  next = readings.Sections (place_findings (next_at p.bytes) (length p.bytes))

  more : PortionForm
  more = cut next p.nest (next_at p.bytes) (length p.bytes) p

  go : (v : Bool) → Placed b (if v
      then ahead (cut (readings.Leaf kinds.Filler none) p.nest (section_size_at p.bytes) (next_at p.bytes) p) (ahead more ps) else ps)
  go true =
      put_leaf b kinds.Filler p.nest (section_size_at p.bytes) (next_at p.bytes) p (ahead more ps) placed refl
      (put_other b next p.nest (next_at p.bytes) (length p.bytes) p ps placed refl tt rest)
  go false = rest

-- all bytes are placed, if they are as their reading asks
pub whole_placed : (reading : Reading) (b : List ℕ) → ReadsAs reading (length b) → Placed b (ahead (whole_portion reading b) [])
whole_placed reading b reads = ahead_by (Placed b) (whole_portion reading b) [] placed (λ _. tt) where
  placed : 0 < length b → Placed b (whole_portion reading b ∷ [])
  placed s = (record { some = s; bytes = sym (take_all (length b) b (omega arith)) }, reads, λ _. tt, tt)
