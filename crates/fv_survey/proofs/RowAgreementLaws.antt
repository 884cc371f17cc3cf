-- If no row of a volume has findings, apart from found volumes, the volume is read without findings to each depth, and
-- so the strict reading gives it a meaning. The steps:
-- 1. The first row of a portion that has bytes has no findings, and neither have the rows in it and after it
--    (`first_tree`). Leaf rows and runs are passed over (`pass_leaf`, `pass_run`).
-- 2. Sections without findings are a clean stream (`sections_rows`), and cells without findings are clean pieces
--    (`cells_rows`), if this is so of the streams and volumes inside them.
-- 3. So a volume whose rows have no findings is clean (`volume_rows`), at every depth (`body_rows`), and has a meaning
--    (`rows_mean`).
use Rattle.std.proofs.Common.{◌≡◌, ◌≤◌, ◌<◌, ◌+◌, ◌-◌, ◌==◌, ◌&&◌, ◌||◌, ℕ, [], ◌∷◌, not, Bool, true, false, if◌then◌else◌, bit_or, nat_lt}
use Rattle.std.proofs.Common.{List, length, drop, refl, sym, ap, ◌∙◌, subst, arith, zero, suc, length-drop, take_all, eq-eqb, ltb-true}
use Rattle.std.proofs.Common.{max}
use Rattle.std.proofs.lemmas.Nat.Bits.{bit_at_or, bit_at-zero, same_from_bits}
use Rattle.std.specs.Int.{bit_at}
use Rattle.fv_base.proofs.Laws.{IsBytes, and_split, field, nat_tests, up_is_not_down}
use Rattle.fv_base.specs.declared.fault.FaultKind.TheVariants as faults
use Rattle.fv_head.specs.Words.{is_one_volume, volume_len_at}
use Rattle.fv_section.specs.Words.{section_header_len_at, section_size_at}
use Rattle.fv_tree.specs.Words.{Denotes, Meaning, Opens, group_kind, holds_sections, volume_kind}
use Rattle.fv_tree.proofs.Laws.{opens_decides}
use Rattle.fv_survey.proofs.AgreementLaws.{volume_has_meaning}
use Rattle.fv_survey.proofs.CleanVolumeLaws.{files_not_store}
use Rattle.fv_survey.proofs.HeaderAgreementLaws.{same_files}
use Rattle.fv_survey.proofs.PortionLaws.{ahead_none, ahead_some}
use Rattle.fv_survey.proofs.SectionAgreementLaws.{place_past}
use Rattle.fv_survey.specs.Words.{Bare, Clean, CleanAt, CleanPieces, CleanStream, Forest, IsCleanStream, IsCleanVolume, NoFindings}
use Rattle.fv_survey.specs.Words.{PortionForm, Reads, Tree, after_first, ahead, begins_section, bits_of, body_at, body_files, body_form}
use Rattle.fv_survey.specs.Words.{body_inside, body_portion, cells_by, cells_end, cut, data_reading, file_inside, files_as, files_by}
use Rattle.fv_survey.specs.Words.{first_row, inside, inside_first, is_file, is_too_deep, kind_at, layout_of, name_findings, next_at, none}
use Rattle.fv_survey.specs.Words.{only, opened, parts_by, piece_by, piece_data, piece_inside, piece_said, place_findings, plain_opening}
use Rattle.fv_survey.specs.Words.{row_of, run_row, section_findings, section_opening, superseded_as, united, with_if}
use Rattle.fv_survey.specs.declared.findings.Findings.{Findings}
use Rattle.fv_survey.specs.declared.names.BodyFile.{BodyFile}
use Rattle.fv_survey.specs.declared.parts.Parts.{Parts}
use Rattle.fv_survey.specs.declared.pieces.Layout.{Layout}
use Rattle.fv_survey.specs.declared.pieces.Piece.{Piece}
use Rattle.fv_survey.specs.declared.pieces.Sort.{Sort}
use Rattle.fv_survey.specs.declared.pieces.Sort.TheVariants as sorts
use Rattle.fv_survey.specs.declared.portion.Nesting.{Nesting}
use Rattle.fv_survey.specs.declared.portion.Reading.{Reading}
use Rattle.fv_survey.specs.declared.portion.Reading.TheVariants as readings
use Rattle.fv_survey.specs.declared.row.Row.{Row}
use Rattle.fv_survey.specs.declared.row.RowKind.{RowKind}
use Rattle.fv_survey.specs.declared.row.RowKind.TheVariants as kinds
use Rattle.fv_survey.specs.declared.section_step.BodyForm.{BodyForm}
use Rattle.fv_survey.specs.declared.section_step.BodyForm.TheVariants as forms
use Rattle.fv_survey.specs.declared.systems.Files.{Files}
use Rattle.fv_survey.specs.declared.systems.Files.TheVariants as files

-- ---- portions and their rows

-- bytes that are read in this way
abbrev pub portion : Reading → Nesting → ℕ → List ℕ → PortionForm
portion reading nest at b = record { reading = reading; nest = nest; at = at; bytes = b }

-- a forest of the rows of these portions, none of which has findings
abbrev Faultless : List BodyFile → List PortionForm → Type 0
Faultless fs ps = (f : Forest) × Reads f ps × NoFindings fs f ps

is_some : (b : List ℕ) → 0 < length b → (length b == 0) ≡ false
is_some b some = grind (arith, nat_tests, some)

-- the first row of a portion has no findings, and neither have the rows in it and after it
record Tops (fs : List BodyFile) (p : PortionForm) (ps : List PortionForm) : Type 0 where
  clean : (first_row p).found ≡ false → (first_row p).findings ≡ none
  inner : (first_row p).found ≡ false → superseded_as p.reading fs p ≡ false → Faultless (files_as p.reading fs p) (inside_first p [])
  rest : Faultless fs (after_first p ps)

first_tree : (fs : List BodyFile) (p : PortionForm) (ps : List PortionForm) → Faultless fs (p ∷ ps) → Tops fs p ps
first_tree fs p ps (Bare, empty, clean) = cc
first_tree fs p ps (Tree row below after, (is, reads, more), (here, later)) = record {
  clean = λ found. ap (λ (r : Row). r.findings) (sym is) ∙ (here (ap (λ (r : Row). r.found) is ∙ found)).0;
  inner = λ found kept. (below, reads, (here (ap (λ (r : Row). r.found) is ∙ found)).1 kept);
  rest = (after, more, later);
}

-- the rows of a portion that has bytes
tops : (fs : List BodyFile) (p : PortionForm) (ps : List PortionForm) → 0 < length p.bytes → Faultless fs (ahead p ps) → Tops fs p ps
tops fs p ps some all = first_tree fs p ps (subst (Faultless fs) (ahead_some p ps (is_some p.bytes some)) all)

-- a leaf row is passed over
pass_leaf : (fs : List BodyFile) (kind : RowKind) (nest : Nesting) (from to : ℕ) (p : PortionForm) (ps : List PortionForm)
    → Faultless fs (ahead (cut (readings.Leaf kind none) nest from to p) ps) → Faultless fs ps
pass_leaf fs kind nest from to p ps all = go (length (cut (readings.Leaf kind none) nest from to p).bytes == 0) refl where
  go : (t : Bool) → (length (cut (readings.Leaf kind none) nest from to p).bytes == 0) ≡ t → Faultless fs ps
  go true e = subst (Faultless fs) (ahead_none (cut (readings.Leaf kind none) nest from to p) ps e) all
  go false e =
      (first_tree fs (cut (readings.Leaf kind none) nest from to p) ps
      (subst (Faultless fs) (ahead_some (cut (readings.Leaf kind none) nest from to p) ps e) all)).rest

-- a run is passed over
pass_run : (f : Forest) (fs : List BodyFile) (kind : RowKind) (nest : Nesting) (at : ℕ) (b : List ℕ) (ps : List PortionForm)
    → Reads f (ahead (portion (readings.Run kind) nest at b) ps) × NoFindings fs f (ahead (portion (readings.Run kind) nest at b) ps)
    → Faultless fs ps
pass_run Bare fs kind nest at b ps all = go (length b == 0) refl where
  go : (t : Bool) → (length b == 0) ≡ t → Faultless fs ps
  go true e = subst (Faultless fs) (ahead_none (portion (readings.Run kind) nest at b) ps e) (Bare, all.0, all.1)
  go false e = let bad = subst (Reads Bare) (ahead_some (portion (readings.Run kind) nest at b) ps e) all.0 in cc
pass_run (Tree row below after) fs kind nest at b ps all =
    go (length b == 0) refl (λ at next more. pass_run after fs kind nest at next ps more)
  where
    go : (t : Bool) → (length b == 0) ≡ t
        → ((at : ℕ) (next : List ℕ) → Reads after (ahead (portion (readings.Run kind) nest at next) ps)
        × NoFindings fs after (ahead (portion (readings.Run kind) nest at next) ps) → Faultless fs ps)
        → Faultless fs ps
    go true e on = subst (Faultless fs) (ahead_none (portion (readings.Run kind) nest at b) ps e) (Tree row below after, all.0, all.1)
    go false e on =
        let parts = subst (λ qs. Reads (Tree row below after) qs × NoFindings fs (Tree row below after) qs)
        (ahead_some (portion (readings.Run kind) nest at b) ps e) all in
        on (at + (run_row kind (portion (readings.Run kind) nest at b)).length)
        (field (run_row kind (portion (readings.Run kind) nest at b)).length
        (length b - (run_row kind (portion (readings.Run kind) nest at b)).length) b)
        (parts.0.2, parts.1.1)

-- the bytes from an offset on
pub rest_of : (n : ℕ) (b : List ℕ) → field n (length b - n) b ≡ drop n b
rest_of n b = take_all (length b - n) (drop n b) (omega (arith, length-drop n b))

-- ---- sets

bits_zero : (a b i : ℕ) → bit_or a b ≡ 0 → (bit_at a i ≡ bit_at 0 i) × (bit_at b i ≡ bit_at 0 i)
bits_zero a b i e =
    let all : max (bit_at a i) (bit_at b i) ≡ 0 = sym (bit_at_or a b i) ∙ ap (λ n. bit_at n i) e ∙ bit_at-zero i in
    let left : bit_at a i ≡ 0 = omega (arith, all) in
    let right : bit_at b i ≡ 0 = omega (arith, all) in
    (left ∙ sym (bit_at-zero i), right ∙ sym (bit_at-zero i))

or_zero : (a b : ℕ) → bit_or a b ≡ 0 → (a ≡ 0) × (b ≡ 0)
or_zero a b e = (same_from_bits a 0 (λ i. (bits_zero a b i e).0), same_from_bits b 0 (λ i. (bits_zero a b i e).1))

pub none_united : (a b : Findings) → united a b ≡ none → (a ≡ none) × (b ≡ none)
none_united a b e =
    let parts = or_zero (bits_of a) (bits_of b) (ap bits_of e) in
    (ap (λ n. record { bits = n }) parts.0, ap (λ n. record { bits = n }) parts.1)

not_deep : (t : Bool) (set : Findings) → with_if t faults.Depth set ≡ none → (t ≡ false) × (set ≡ none)
not_deep false set e = (refl, e)
not_deep true set e = let parts = none_united set (only faults.Depth) e in let bit : 2097152 ≡ 0 = ap bits_of parts.1 in absurd
    (omega (arith, bit))

some_section : (b : List ℕ) → section_findings b ≡ none → ⊥
some_section b = go (nat_lt (length b) 4) where
  go : (t : Bool) → (if t then only faults.SectionTail else only faults.SectionSize) ≡ none → ⊥
  go true e = let bit : 1048576 ≡ 0 = ap bits_of e in omega (arith, bit)
  go false e = let bit : 524288 ≡ 0 = ap bits_of e in omega (arith, bit)

-- ---- sections

-- the body of a section that is not too deep is read without findings, if its rows have none
abbrev BodyRows : (BodyForm → Clean) → ℕ → Type 0
BodyRows body n =
    (fs : List BodyFile) (nest : Nesting) (p : PortionForm) → nest.levels ≡ n
    → is_too_deep nest (body_form (kind_at p.bytes) (body_at p.bytes)) ≡ false
    → Faultless fs (ahead (body_portion nest (body_form (kind_at p.bytes) (body_at p.bytes)) p) [])
    → body (body_form (kind_at p.bytes) (body_at p.bytes)) (body_at p.bytes)

module _ (body : BodyForm → Clean) (n : ℕ) (bodies : BodyRows body n) where
  -- what the rows of the first section say, if they have no findings
  record One (fs : List BodyFile) (odd : Findings) (nest : Nesting) (at : ℕ) (b : List ℕ) (later : List PortionForm) : Type 0 where
    begins : begins_section b ≡ true
    placed : odd ≡ none
    inner : body (body_form (kind_at b) (body_at b)) (body_at b)
    rest : Faultless fs (ahead (portion (readings.Sections (place_findings (next_at b) (length b))) nest (at + next_at b)
        (field (next_at b) (length b - next_at b) b)) later)

  one_section : (fs : List BodyFile) (odd : Findings) (nest : Nesting) (at : ℕ) (b : List ℕ) (later : List PortionForm) → nest.levels ≡ n
      → Tops fs (portion (readings.Sections odd) nest at b) later → One fs odd nest at b later
  one_section fs odd nest at b later level t = go (begins_section b) refl where
    go : (v : Bool) → begins_section b ≡ v → One fs odd nest at b later
    go false e =
        let is : first_row (portion (readings.Sections odd) nest at b)
        ≡ row_of (plain_opening kinds.Lost (section_findings b)) (length b) (portion (readings.Sections odd) nest at b) = rw e refl in
        absurd (some_section b (sym (ap (λ (r : Row). r.findings) is) ∙ t.clean (ap (λ (r : Row). r.found) is)))
    go true e =
        let form : BodyForm = body_form (kind_at b) (body_at b) in
        let q : PortionForm = portion (readings.Sections odd) nest at b in
        let is : first_row q ≡ row_of (section_opening (kind_at b) (with_if (is_too_deep nest form) faults.Depth odd))
        (section_size_at b) q =
        rw e refl in
        let found : (first_row q).found ≡ false = ap (λ (r : Row). r.found) is in
        let clean = not_deep (is_too_deep nest form) odd (sym (ap (λ (r : Row). r.findings) is) ∙ t.clean found) in
        let inner : inside_first q []
        ≡ ahead (cut (readings.Leaf kinds.SectionHeader none) (inside nest) 0 (section_header_len_at b) q)
        (ahead (body_portion (inside nest) form q) []) = rw e refl in
        let after : after_first q later
        ≡ ahead (cut (readings.Leaf kinds.Filler none) nest (section_size_at b) (next_at b) q)
        (ahead (cut (readings.Sections (place_findings (next_at b) (length b))) nest (next_at b) (length b) q) later) = rw e refl in
        record {
          begins = e;
          placed = clean.1;
          inner = bodies fs (inside nest) q level clean.0
              (pass_leaf fs kinds.SectionHeader (inside nest) 0 (section_header_len_at b) q (ahead (body_portion (inside nest) form q) [])
              (subst (Faultless fs) inner (t.inner found refl)));
          rest = pass_leaf fs kinds.Filler nest (section_size_at b) (next_at b) q
              (ahead (cut (readings.Sections (place_findings (next_at b) (length b))) nest (next_at b) (length b) q) later)
              (subst (Faultless fs) after t.rest);
        }

  -- sections whose rows have no findings are clean
  sections_rows : (fs : List BodyFile) (k : ℕ) (odd : Findings) (nest : Nesting) (at : ℕ) (b : List ℕ) (later : List PortionForm)
      → nest.levels ≡ n
      → Faultless fs (ahead (portion (readings.Sections odd) nest at b) later) → CleanStream body k b
  sections_rows fs zero odd nest at b later level all = tt
  sections_rows fs (suc k) odd nest at b later level all = λ some.
      let one = one_section fs odd nest at b later level (tops fs (portion (readings.Sections odd) nest at b) later some all) in (
        one.begins,
        place (nat_lt (next_at b) (length b)) refl one.rest,
        one.inner,
        subst (CleanStream body k) (rest_of (next_at b) b)
            (sections_rows fs k (place_findings (next_at b) (length b)) nest (at + next_at b) (field (next_at b) (length b - next_at b) b) later level one.rest),
      )
    where
      place : (t : Bool) → nat_lt (next_at b) (length b) ≡ t
          → Faultless fs (ahead (portion (readings.Sections (place_findings (next_at b) (length b))) nest (at + next_at b)
          (field (next_at b) (length b - next_at b) b)) later)
          → place_findings (next_at b) (length b) ≡ none
      place false e rest = place_past (next_at b) (length b) e
      place true e rest =
          let inside : next_at b < length b = ltb-true (next_at b) (length b) e in
          let some : 0 < length (field (next_at b) (length b - next_at b) b) =
          omega (arith, ap length (rest_of (next_at b) b), length-drop (next_at b) b, inside) in
          (one_section fs (place_findings (next_at b) (length b)) nest (at + next_at b)
          (field (next_at b) (length b - next_at b) b) later level
          (tops fs _ later some rest)).placed

-- ---- cells

not_is : (t : Bool) → not t ≡ true → t ≡ false
not_is true e = cc
not_is false e = refl

pub said_found : (sort : Sort) (piece : Piece) → (piece_said sort piece).found ≡ false
said_found sorts.Free piece = refl
said_found sorts.Stub piece = refl
said_found sorts.Lost piece = refl
said_found sorts.File piece = refl
said_found sorts.Pad piece = refl
said_found sorts.Dead piece = refl

pub said_findings : (sort : Sort) (piece : Piece) → (piece_said sort piece).findings ≡ piece.findings
said_findings sorts.Free piece = refl
said_findings sorts.Stub piece = refl
said_findings sorts.Lost piece = refl
said_findings sorts.File piece = refl
said_findings sorts.Pad piece = refl
said_findings sorts.Dead piece = refl

file_sort : (sort : Sort) → is_file sort ≡ true → sort ≡ sorts.File
file_sort sorts.File e = refl
file_sort sorts.Free e = cc
file_sort sorts.Stub e = cc
file_sort sorts.Lost e = cc
file_sort sorts.Pad e = cc
file_sort sorts.Dead e = cc

module _ (n : ℕ) (bodies : BodyRows (CleanAt n) n) where
  -- the data of a file of a type that holds sections
  data_rows : (fs : List BodyFile) (layout : Layout) (nest : Nesting) (at : ℕ) (r : List ℕ) (piece : Piece) → nest.levels ≡ n
      → piece.sort ≡ sorts.File
      → holds_sections piece.code ≡ true
      → Faultless fs (piece_inside layout.polarity piece.sort piece (portion (readings.Cells layout) nest at r) [])
      → IsCleanStream n (piece_data piece r)
  data_rows fs layout nest at r piece level sort holds all =
      let q : PortionForm = portion (readings.Cells layout) nest at r in
      let content : List ℕ = piece_data piece r in
      let filler : List PortionForm = ahead (cut (readings.Leaf kinds.Filler none) (inside nest) piece.size piece.span q) [] in
      let file : Faultless fs (file_inside layout.polarity piece q []) =
      subst (λ s. Faultless fs (piece_inside layout.polarity s piece q [])) sort all in
      let reading : data_reading layout.polarity piece.sort piece.code content ≡ readings.Sections none =
      ap (λ s. data_reading layout.polarity s piece.code content) sort
      ∙ ap (λ t. if t then readings.Sections none else readings.Run kinds.Data) holds in
      sections_rows (CleanAt n) n bodies fs (length content) none (inside nest) (at + piece.header) content filler level
      (subst (λ s. Faultless fs (ahead (portion s (inside nest) (at + piece.header) content) filler)) reading
      (pass_leaf fs kinds.FileHeader (inside nest) 0 piece.header q
      (ahead (cut (data_reading layout.polarity piece.sort piece.code content) (inside nest) piece.header piece.size q) filler) file))

  -- cells whose rows have no findings are clean
  cells_rows : (k : ℕ) (layout : Layout) (nest : Nesting) (at : ℕ) (r : List ℕ) (later : List PortionForm) (fs : List BodyFile)
      → nest.levels ≡ n → Faultless fs (ahead (portion (readings.Cells layout) nest at r) later)
      → CleanPieces (IsCleanStream n) layout fs k r
  cells_rows zero layout nest at r later fs level all = tt
  cells_rows (suc k) layout nest at r later fs level all = λ some.
      let piece : Piece = piece_by layout r in
      let t = tops fs (portion (readings.Cells layout) nest at r) later some all in
      let found = said_found piece.sort piece in (
        sym (said_findings piece.sort piece) ∙ t.clean found,
        λ opened.
            let both = and_split _ _ opened in
            let parts = and_split _ _ both.0 in
            data_rows fs layout nest at r piece level (file_sort piece.sort parts.0) parts.1 (t.inner found (not_is _ both.1)),
        subst (CleanPieces (IsCleanStream n) layout fs k) (rest_of piece.span r)
            (cells_rows k layout nest (at + piece.span) (field piece.span (length r - piece.span) r) later fs level t.rest),
      )

  -- a volume whose rows have no findings is clean
  volume_rows : (fs : List BodyFile) (nest : Nesting) (at : ℕ) (b : List ℕ) (later : List PortionForm) → nest.levels ≡ n → 56 ≤ length b
      → volume_len_at b ≡ length b → ((parts_by b).files ≡ files.Store → ⊥)
      → Tops fs (portion readings.Volume nest at b) later → IsCleanVolume n b
  volume_rows fs nest at b later level long whole filed t =
      let parts : Parts = parts_by b in
      let clean = none_united parts.findings (name_findings parts b) (t.clean refl) in
      let own : List BodyFile = body_files parts b in
      let q : PortionForm = portion readings.Volume nest at b in
      let body : List PortionForm = body_inside parts.files (inside nest) parts q [] in
      let filler : List PortionForm = ahead (cut (readings.Leaf kinds.Filler none) (inside nest) parts.ext_end parts.first q) body in
      let ext : List PortionForm = ahead (cut (readings.Leaf kinds.ExtHeader none) (inside nest) parts.ext parts.ext_end q) filler in
      let between = pass_leaf own kinds.VolumeHeader (inside nest) 0 parts.header q
      (ahead (cut (readings.Run kinds.Between) (inside nest) parts.header parts.ext q) ext) (t.inner refl refl) in
      let header = pass_run between.0 own kinds.Between (inside nest) (at + parts.header)
      (field parts.header (parts.ext - parts.header) b) ext
      (between.1, between.2) in
      record {
        least = long;
        whole = whole;
        filed = filed;
        header = clean.0;
        names = clean.1;
        pieces = cells parts.files (pass_leaf own kinds.Filler (inside nest) parts.ext_end parts.first q body
            (pass_leaf own kinds.ExtHeader (inside nest) parts.ext parts.ext_end q filler header));
      }
    where
      filed_cells : (f : Files)
          → Faultless (body_files (parts_by b) b) (ahead (portion (readings.Cells (layout_of (parts_by b))) (inside nest) (at + (parts_by b).first)
          (field (parts_by b).first (cells_end (parts_by b).first (length b) - (parts_by b).first) b))
          (ahead (cut (readings.Lost (only faults.Length)) (inside nest) (cells_end (parts_by b).first (length b)) (length b)
          (portion readings.Volume nest at b)) []))
          → (let r : List ℕ = field (parts_by b).first (cells_end (parts_by b).first (length b) - (parts_by b).first) b in
          CleanPieces (IsCleanStream n) (layout_of (parts_by b)) (body_files (parts_by b) b) (length r) r)
      filed_cells f all = cells_rows (length (field (parts_by b).first (cells_end (parts_by b).first (length b) - (parts_by b).first) b))
          (layout_of (parts_by b))
          (inside nest) (at + (parts_by b).first)
          (field (parts_by b).first (cells_end (parts_by b).first (length b) - (parts_by b).first) b)
          (ahead (cut (readings.Lost (only faults.Length)) (inside nest) (cells_end (parts_by b).first (length b)) (length b)
          (portion readings.Volume nest at b)) []) (body_files (parts_by b) b) level all

      cells : (f : Files) → Faultless (body_files (parts_by b) b)
          (body_inside f (inside nest) (parts_by b) (portion readings.Volume nest at b) [])
          → (let r : List ℕ = cells_by f (parts_by b).first b in
          CleanPieces (IsCleanStream n) (layout_of (parts_by b)) (body_files (parts_by b) b) (length r) r)
      cells files.Store all = tt
      cells files.Unknown all = tt
      cells files.Ffs1 all = filed_cells files.Ffs1 all
      cells files.Ffs2 all = filed_cells files.Ffs2 all
      cells files.Ffs3 all = filed_cells files.Ffs3 all

-- ---- the recursion

-- a body that is opened as a volume
form_opens : (kind : ℕ) (b : List ℕ) → body_form kind b ≡ forms.Volume → Opens b
form_opens kind b e = go (kind == group_kind) ((kind == volume_kind) && is_one_volume b) refl ((kind == 0x01) || (kind == 0x02)) e where
  go : (v w : Bool) → ((kind == volume_kind) && is_one_volume b) ≡ w → (x : Bool)
      → (if v then forms.Group else (if w then forms.Volume else (if x then forms.Packed else forms.Plain))) ≡ forms.Volume → Opens b
  go true w d x e = let p : forms.Group ≡ forms.Volume = e in cc
  go false false d true e = let p : forms.Packed ≡ forms.Volume = e in cc
  go false false d false e = let p : forms.Plain ≡ forms.Volume = e in cc
  go false true d x e = (opens_decides b).0 ((and_split _ _ d).1)

opens_filed : (b : List ℕ) → Opens b → (parts_by b).files ≡ files.Store → ⊥
opens_filed b o store =
    files_not_store o.file_system.0 (sym (ap files_by o.file_system.1 ∙ same_files o.file_system.0) ∙ store)

-- bodies whose rows have no findings are clean, at each depth
body_rows : (n : ℕ) → BodyRows (CleanAt n) n
body_rows zero fs nest p level shallow all = go (body_form (kind_at p.bytes) (body_at p.bytes)) shallow where
  go : (form : BodyForm) → is_too_deep nest form ≡ false → CleanAt zero form (body_at p.bytes)
  go forms.Plain e = tt
  go forms.Packed e = tt
  go forms.Group e = absurd (up_is_not_down (nest.levels == 0) (eq-eqb nest.levels 0 level) e)
  go forms.Volume e = absurd (up_is_not_down (nest.levels == 0) (eq-eqb nest.levels 0 level) e)
body_rows (suc n) fs nest p level shallow all =
    go (body_form (kind_at p.bytes) (body_at p.bytes)) refl shallow all (body_rows n)
  where
    go : (form : BodyForm) → body_form (kind_at p.bytes) (body_at p.bytes) ≡ form → is_too_deep nest form ≡ false
        → Faultless fs (ahead (body_portion nest form p) []) → BodyRows (CleanAt n) n → CleanAt (suc n) form (body_at p.bytes)
    go forms.Plain is e all bodies = tt
    go forms.Packed is e all bodies = tt
    go forms.Group is e all bodies =
        let read : body_portion nest forms.Group p
        ≡ cut (readings.Sections none) (opened nest) (section_header_len_at p.bytes) (section_size_at p.bytes) p = rw e refl in
        sections_rows (CleanAt n) n bodies fs (length (body_at p.bytes)) none (opened nest) (p.at + section_header_len_at p.bytes) (body_at p.bytes) []
        (omega (arith, level)) (subst (λ (q : PortionForm). Faultless fs (ahead q [])) read all)
    go forms.Volume is e all bodies =
        let read : body_portion nest forms.Volume p
        ≡ cut readings.Volume (opened nest) (section_header_len_at p.bytes) (section_size_at p.bytes) p = rw e refl in
        let o = form_opens (kind_at p.bytes) (body_at p.bytes) is in
        volume_rows n bodies fs (opened nest) (p.at + section_header_len_at p.bytes) (body_at p.bytes) []
        (omega (arith, level)) o.least o.length_is
        (opens_filed (body_at p.bytes) o)
        (tops fs (portion readings.Volume (opened nest) (p.at + section_header_len_at p.bytes) (body_at p.bytes)) []
        (omega (arith, o.least))
        (subst (λ (q : PortionForm). Faultless fs (ahead q [])) read all))

-- if no row of a volume of FvLength bytes has findings, apart from found volumes and superseded files, and the volume
-- is not a variable store, the strict reading gives it a meaning
pub rows_mean : (n : ℕ) (p : PortionForm) (f : Forest) → p.reading ≡ readings.Volume → p.nest.levels ≡ n → 56 ≤ length p.bytes
    → volume_len_at p.bytes ≡ length p.bytes → ((parts_by p.bytes).files ≡ files.Store → ⊥) → IsBytes p.bytes → Reads f (p ∷ [])
    → NoFindings [] f (p ∷ []) → (m : Meaning) × Denotes n p.bytes m
rows_mean n p f is level long whole filed small reads clean =
    let same : p ≡ portion readings.Volume p.nest p.at p.bytes = ap (λ r. portion r p.nest p.at p.bytes) is in
    let all : Faultless [] (portion readings.Volume p.nest p.at p.bytes ∷ []) =
    subst (λ (q : PortionForm). Faultless [] (q ∷ [])) same (f, reads, clean) in
    volume_has_meaning n p.bytes small
    (volume_rows n (body_rows n) [] p.nest p.at p.bytes [] level long whole filed
    (first_tree [] (portion readings.Volume p.nest p.at p.bytes) [] all))
