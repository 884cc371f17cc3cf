-- If the strict reading gives a volume a meaning, none of its rows has findings, apart from found volumes and
-- superseded files. The steps:
-- 1. The rows of a portion have no findings if its first row has none, and neither have the rows in it and after it
--    (`tree_quiet`). This is so of leaf rows without findings (`leaf_quiet`) and of runs (`run_quiet`).
-- 2. The rows of a clean stream (`sections_quiet`), of clean cells (`cells_quiet`) and of a clean volume
--    (`volume_quiet`) have no findings, if this is so of what lies in them; and so at every depth (`body_quiet`).
-- 3. A volume with a meaning is clean, so its rows have no findings (`meaning_rows`).
use Rattle.std.proofs.Common.{◌≡◌, ◌≤◌, ◌<◌, ◌+◌, ◌-◌, ◌%◌, ◌==◌, ◌||◌, ℕ, [], ◌∷◌, min, not, Bool, true, false, if◌then◌else◌, nat_lt}
use Rattle.std.proofs.Common.{List, length, drop, refl, sym, ap, ◌∙◌, subst, arith, zero, suc, length-drop, length-take-le, eqb-true}
use Rattle.fv_base.proofs.Laws.{all_are, and_join, and_split, bytes_eq, erased_byte, field, nat_tests, up_to_8}
use Rattle.fv_base.specs.declared.fault.FaultKind.TheVariants as faults
use Rattle.fv_base.specs.declared.flash.FileSystem.TheVariants as systems
use Rattle.fv_head.specs.Words.{system_guid}
use Rattle.fv_section.specs.Words.{section_header_len_at, section_size_at}
use Rattle.fv_tree.specs.Words.{Denotes, Meaning, holds_sections}
use Rattle.fv_survey.specs.inner.Sound.{IsSound}
use Rattle.fv_survey.proofs.AgreementLaws.{volume_is_clean}
use Rattle.fv_survey.proofs.FittingLaws.{ahead_by}
use Rattle.fv_survey.proofs.PieceBoundLaws.{piece_lies}
use Rattle.fv_survey.proofs.PortionLaws.{ahead_none, ahead_some}
use Rattle.fv_survey.proofs.RowAgreementLaws.{portion, rest_of, said_findings}
use Rattle.fv_survey.proofs.RuleLaws.{section_lies}
use Rattle.fv_survey.proofs.SoundLaws.{sound_is}
use Rattle.fv_survey.specs.Words.{Bare, Clean, CleanAt, CleanPieces, CleanStream, Forest, IsCleanStream, IsCleanVolume, NoFindings}
use Rattle.fv_survey.specs.Words.{PortionForm, Reads, Tree, after_first, ahead, begins_section, bits_of, body_at, body_files, body_form}
use Rattle.fv_survey.specs.Words.{body_inside, body_portion, cells_by, cells_end, cut, data_reading, ext_by, ffs1_guid, file_inside}
use Rattle.fv_survey.specs.Words.{files_as, files_by, first_row, first_start, found_volume, inside, inside_first, is_allowed, is_file}
use Rattle.fv_survey.specs.Words.{is_too_deep, is_vendors, kind_at, layout_of, name_findings, next_at, none, only, opened, parts_by}
use Rattle.fv_survey.specs.Words.{piece_by, piece_data, piece_inside, place_findings, plain_opening, row_of, run_inside, run_row}
use Rattle.fv_survey.specs.Words.{section_opening, superseded_as, united, variables_guid, volume_end, volume_inside, volume_said, with_if}
use Rattle.fv_survey.specs.declared.findings.Findings.{Findings}
use Rattle.fv_survey.specs.declared.names.BodyFile.{BodyFile}
use Rattle.fv_survey.specs.declared.parts.Parts.{Parts}
use Rattle.fv_survey.specs.declared.pieces.Layout.{Layout}
use Rattle.fv_survey.specs.declared.pieces.Piece.{Piece}
use Rattle.fv_survey.specs.declared.pieces.Sort.{Sort}
use Rattle.fv_survey.specs.declared.pieces.Sort.TheVariants as sorts
use Rattle.fv_survey.specs.declared.portion.Nesting.{Nesting}
use Rattle.fv_survey.specs.declared.portion.Reading.TheVariants as readings
use Rattle.fv_survey.specs.declared.row.Row.{Row}
use Rattle.fv_survey.specs.declared.row.RowKind.{RowKind}
use Rattle.fv_survey.specs.declared.row.RowKind.TheVariants as kinds
use Rattle.fv_survey.specs.declared.section_step.BodyForm.{BodyForm}
use Rattle.fv_survey.specs.declared.section_step.BodyForm.TheVariants as forms
use Rattle.fv_survey.specs.declared.systems.Files.{Files}
use Rattle.fv_survey.specs.declared.systems.Files.TheVariants as files

-- ---- portions

-- the rows of these portions have no findings
abbrev Quiet : List BodyFile → List PortionForm → Type 0
Quiet fs ps = (f : Forest) → Reads f ps → NoFindings fs f ps

no_rows : (fs : List BodyFile) (f : Forest) → NoFindings fs f []
no_rows fs Bare = tt
no_rows fs (Tree row below after) = tt

none_quiet : (fs : List BodyFile) → Quiet fs []
none_quiet fs f reads = no_rows fs f

-- the rows of a portion and of the portions after it
tree_quiet : (fs : List BodyFile) (p : PortionForm) (ps : List PortionForm)
    → ((first_row p).found ≡ false → (first_row p).findings ≡ none)
    → ((first_row p).found ≡ false → superseded_as p.reading fs p ≡ false → Quiet (files_as p.reading fs p) (inside_first p []))
    → Quiet fs (after_first p ps) → Quiet fs (p ∷ ps)
tree_quiet fs p ps clean inner rest Bare reads = tt
tree_quiet fs p ps clean inner rest (Tree row below after) (is, reads, more) = (
  λ found.
      let same : (first_row p).found ≡ false = sym (ap (λ (r : Row). r.found) is) ∙ found in
      (ap (λ (r : Row). r.findings) is ∙ clean same, λ kept. inner same kept below reads),
  rest after more,
)

ahead_quiet : (fs : List BodyFile) (p : PortionForm) (ps : List PortionForm) → (0 < length p.bytes → Quiet fs (p ∷ ps)) → Quiet fs ps
    → Quiet fs (ahead p ps)
ahead_quiet fs p ps some rest = ahead_by (Quiet fs) p ps some (λ _. rest)

leaf_quiet : (fs : List BodyFile) (kind : RowKind) (nest : Nesting) (from to : ℕ) (p : PortionForm) (ps : List PortionForm) → Quiet fs ps
    → Quiet fs (ahead (cut (readings.Leaf kind none) nest from to p) ps)
leaf_quiet fs kind nest from to p ps rest =
    ahead_quiet fs (cut (readings.Leaf kind none) nest from to p) ps
    (λ some. tree_quiet fs (cut (readings.Leaf kind none) nest from to p) ps (λ found. refl) (λ found kept. none_quiet fs) rest) rest

-- the first row of a run that is not a volume that was found
run_clean : (kind : RowKind) (p : PortionForm) → 0 < p.nest.found → (run_row kind p).found ≡ false
    → ((run_row kind p).findings ≡ none) × (run_inside p [] ≡ [])
run_clean kind p some = go (nat_lt 0 (first_start p.bytes)) (p.nest.found == 0) (grind (arith, nat_tests, some)) where
  go : (s t : Bool) → t ≡ false
      → (if s then row_of (plain_opening kind none) (first_start p.bytes) p
      else (if t then row_of (plain_opening kinds.Unread (only faults.Depth)) (length p.bytes) p
      else row_of (volume_said true (found_volume p).bytes) (volume_end p.bytes) p)).found ≡ false
      → ((if s then row_of (plain_opening kind none) (first_start p.bytes) p
      else (if t then row_of (plain_opening kinds.Unread (only faults.Depth)) (length p.bytes) p
      else row_of (volume_said true (found_volume p).bytes) (volume_end p.bytes) p)).findings ≡ none)
      × ((if s || t then [] else volume_inside (found_volume p) []) ≡ [])
  go true t e is = (refl, refl)
  go false true e is = cc
  go false false e is = cc

run_quiet : (f : Forest) (fs : List BodyFile) (kind : RowKind) (nest : Nesting) (at : ℕ) (b : List ℕ) (ps : List PortionForm)
    → 0 < nest.found → Quiet fs ps → Reads f (ahead (portion (readings.Run kind) nest at b) ps)
    → NoFindings fs f (ahead (portion (readings.Run kind) nest at b) ps)
run_quiet Bare fs kind nest at b ps some rest reads = tt
run_quiet (Tree row below after) fs kind nest at b ps some rest reads =
    go (length b == 0) refl (λ at next more. run_quiet after fs kind nest at next ps some rest more)
  where
    go : (t : Bool) → (length b == 0) ≡ t
        → ((at : ℕ) (next : List ℕ) → Reads after (ahead (portion (readings.Run kind) nest at next) ps)
        → NoFindings fs after (ahead (portion (readings.Run kind) nest at next) ps))
        → NoFindings fs (Tree row below after) (ahead (portion (readings.Run kind) nest at b) ps)
    go true e on =
        let bare = ahead_none (portion (readings.Run kind) nest at b) ps e in
        subst (NoFindings fs (Tree row below after)) (sym bare)
        (rest (Tree row below after) (subst (Reads (Tree row below after)) bare reads))
    go false e on =
        let q : PortionForm = portion (readings.Run kind) nest at b in
        let whole = ahead_some q ps e in
        let parts = subst (Reads (Tree row below after)) whole reads in
        subst (NoFindings fs (Tree row below after)) (sym whole) (
          λ found.
              let clean = run_clean kind q some (sym (ap (λ (r : Row). r.found) parts.0) ∙ found) in
              (ap (λ (r : Row). r.findings) parts.0 ∙ clean.0, λ kept. subst (NoFindings fs below) (sym clean.1) (no_rows fs below)),
          on (at + (run_row kind q).length) (field (run_row kind q).length (length b - (run_row kind q).length) b) parts.2,
        )

run_ahead : (fs : List BodyFile) (kind : RowKind) (nest : Nesting) (from to : ℕ) (p : PortionForm) (ps : List PortionForm) → 0 < nest.found
    → Quiet fs ps → Quiet fs (ahead (cut (readings.Run kind) nest from to p) ps)
run_ahead fs kind nest from to p ps some rest f reads =
    run_quiet f fs kind nest (p.at + from) (field from (to - from) p.bytes) ps some rest reads

-- ---- sections

-- the body of a section without findings is not too deep, and its rows have no findings
abbrev BodyQuiet : (BodyForm → Clean) → ℕ → Type 0
BodyQuiet body n =
    (fs : List BodyFile) (nest : Nesting) (p : PortionForm) → nest.levels ≡ n → 0 < nest.found
    → body (body_form (kind_at p.bytes) (body_at p.bytes)) (body_at p.bytes)
    → (is_too_deep nest (body_form (kind_at p.bytes) (body_at p.bytes)) ≡ false)
    × Quiet fs (ahead (body_portion nest (body_form (kind_at p.bytes) (body_at p.bytes)) p) [])

one_quiet : (fs : List BodyFile) (odd : Findings) (nest : Nesting) (at : ℕ) (b : List ℕ) (later : List PortionForm)
    → begins_section b ≡ true → odd ≡ none → is_too_deep nest (body_form (kind_at b) (body_at b)) ≡ false
    → Quiet fs (ahead (body_portion (inside nest) (body_form (kind_at b) (body_at b)) (portion (readings.Sections odd) nest at b)) [])
    → Quiet fs (ahead (portion (readings.Sections (place_findings (next_at b) (length b))) nest (at + next_at b)
    (field (next_at b) (length b - next_at b) b)) later)
    → Quiet fs (portion (readings.Sections odd) nest at b ∷ later)
one_quiet fs odd nest at b later begins placed shallow body rest =
    let form : BodyForm = body_form (kind_at b) (body_at b) in
    let q : PortionForm = portion (readings.Sections odd) nest at b in
    let is : first_row q ≡ row_of (section_opening (kind_at b) (with_if (is_too_deep nest form) faults.Depth odd)) (section_size_at b) q =
    rw begins refl in
    let inner : inside_first q []
    ≡ ahead (cut (readings.Leaf kinds.SectionHeader none) (inside nest) 0 (section_header_len_at b) q)
    (ahead (body_portion (inside nest) form q) []) = rw begins refl in
    let after : after_first q later
    ≡ ahead (cut (readings.Leaf kinds.Filler none) nest (section_size_at b) (next_at b) q)
    (ahead (cut (readings.Sections (place_findings (next_at b) (length b))) nest (next_at b) (length b) q) later) = rw begins refl in
    tree_quiet fs q later
    (λ found. ap (λ (r : Row). r.findings) is ∙ ap (λ t. with_if t faults.Depth odd) shallow ∙ placed)
    (λ found kept. subst (Quiet fs) (sym inner)
    (leaf_quiet fs kinds.SectionHeader (inside nest) 0 (section_header_len_at b) q (ahead (body_portion (inside nest) form q) []) body))
    (subst (Quiet fs) (sym after) (leaf_quiet fs kinds.Filler nest (section_size_at b) (next_at b) q
    (ahead (cut (readings.Sections (place_findings (next_at b) (length b))) nest (next_at b) (length b) q) later) rest))

module _ (body : BodyForm → Clean) (n : ℕ) (bodies : BodyQuiet body n) where
  -- the rows of a clean stream have no findings
  sections_quiet : (fs : List BodyFile) (k : ℕ) (odd : Findings) (nest : Nesting) (at : ℕ) (b : List ℕ) (later : List PortionForm)
      → nest.levels ≡ n → 0 < nest.found → odd ≡ none → length b ≤ k → CleanStream body k b → Quiet fs later
      → Quiet fs (ahead (portion (readings.Sections odd) nest at b) later)
  sections_quiet fs zero odd nest at b later level found placed few clean rest =
      ahead_quiet fs (portion (readings.Sections odd) nest at b) later (λ some. absurd (omega (arith, some, few))) rest
  sections_quiet fs (suc k) odd nest at b later level found placed few clean rest =
      ahead_quiet fs (portion (readings.Sections odd) nest at b) later (λ some.
      let here = clean some in
      let inner = bodies fs (inside nest) (portion (readings.Sections odd) nest at b) level found here.2 in
      let lies = section_lies b here.0 in
      let short : length (field (next_at b) (length b - next_at b) b) ≤ k =
      omega (arith, ap length (rest_of (next_at b) b), length-drop (next_at b) b, lies.header, lies.size, lies.next, few) in
      one_quiet fs odd nest at b later here.0 placed inner.0 inner.1
      (sections_quiet fs k (place_findings (next_at b) (length b)) nest (at + next_at b) (field (next_at b) (length b - next_at b) b) later level
      found here.1 short (subst (CleanStream body k) (sym (rest_of (next_at b) b)) here.3) rest)) rest

-- ---- cells

module _ (n : ℕ) (bodies : BodyQuiet (CleanAt n) n) where
  -- the data of a file, a pad or a dead file
  data_quiet : (fs : List BodyFile) (layout : Layout) (nest : Nesting) (at : ℕ) (r : List ℕ) (piece : Piece) (later : List PortionForm)
      → nest.levels ≡ n → 0 < nest.found
      → (is_file piece.sort ≡ true → holds_sections piece.code ≡ true → IsCleanStream n (piece_data piece r)) → Quiet fs later
      → (s : Sort) → piece.sort ≡ s
      → Quiet fs (ahead (cut (data_reading layout.polarity s piece.code (field piece.header (piece.size - piece.header) r)) (inside nest)
      piece.header piece.size (portion (readings.Cells layout) nest at r)) later)
  data_quiet fs layout nest at r piece later level found clean rest sorts.File sort = go (holds_sections piece.code) refl where
    go : (t : Bool) → holds_sections piece.code ≡ t
        → Quiet fs (ahead (cut (if t then readings.Sections none else readings.Run kinds.Data) (inside nest) piece.header piece.size
        (portion (readings.Cells layout) nest at r)) later)
    go true e =
        sections_quiet (CleanAt n) n bodies fs (length (piece_data piece r)) none (inside nest) (at + piece.header)
        (piece_data piece r) later
        level found refl (omega arith) (clean (ap is_file sort) e) rest
    go false e = run_ahead fs kinds.Data (inside nest) piece.header piece.size (portion (readings.Cells layout) nest at r) later found rest
  data_quiet fs layout nest at r piece later level found clean rest sorts.Pad sort =
      go (all_are (erased_byte layout.polarity) (field piece.header (piece.size - piece.header) r))
    where
      go : (t : Bool)
          → Quiet fs (ahead (cut (if t then readings.Leaf kinds.Pad none else readings.Run kinds.PadData) (inside nest) piece.header piece.size
          (portion (readings.Cells layout) nest at r)) later)
      go true = leaf_quiet fs kinds.Pad (inside nest) piece.header piece.size (portion (readings.Cells layout) nest at r) later rest
      go false = run_ahead fs kinds.PadData (inside nest) piece.header piece.size
          (portion (readings.Cells layout) nest at r) later found rest
  data_quiet fs layout nest at r piece later level found clean rest sorts.Dead sort =
      run_ahead fs kinds.Dead (inside nest) piece.header piece.size (portion (readings.Cells layout) nest at r) later found rest
  data_quiet fs layout nest at r piece later level found clean rest sorts.Free sort =
      run_ahead fs kinds.Dead (inside nest) piece.header piece.size (portion (readings.Cells layout) nest at r) later found rest
  data_quiet fs layout nest at r piece later level found clean rest sorts.Stub sort =
      run_ahead fs kinds.Dead (inside nest) piece.header piece.size (portion (readings.Cells layout) nest at r) later found rest
  data_quiet fs layout nest at r piece later level found clean rest sorts.Lost sort =
      run_ahead fs kinds.Dead (inside nest) piece.header piece.size (portion (readings.Cells layout) nest at r) later found rest

  -- the rows in the row of a piece
  piece_quiet : (fs : List BodyFile) (layout : Layout) (nest : Nesting) (at : ℕ) (r : List ℕ) (piece : Piece)
      → nest.levels ≡ n → 0 < nest.found
      → (is_file piece.sort ≡ true → holds_sections piece.code ≡ true → IsCleanStream n (piece_data piece r))
      → (s : Sort) → Quiet fs (piece_inside layout.polarity s piece (portion (readings.Cells layout) nest at r) [])
  piece_quiet fs layout nest at r piece level found clean = go where
    file : Quiet fs (file_inside layout.polarity piece (portion (readings.Cells layout) nest at r) [])
    file =
        leaf_quiet fs kinds.FileHeader (inside nest) 0 piece.header (portion (readings.Cells layout) nest at r)
        (ahead (cut (data_reading layout.polarity piece.sort piece.code (field piece.header (piece.size - piece.header) r)) (inside nest)
        piece.header piece.size (portion (readings.Cells layout) nest at r))
        (ahead (cut (readings.Leaf kinds.Filler none) (inside nest) piece.size piece.span (portion (readings.Cells layout) nest at r)) []))
        (data_quiet fs layout nest at r piece
        (ahead (cut (readings.Leaf kinds.Filler none) (inside nest) piece.size piece.span (portion (readings.Cells layout) nest at r)) [])
        level found clean
        (leaf_quiet fs kinds.Filler (inside nest) piece.size piece.span (portion (readings.Cells layout) nest at r) [] (none_quiet fs))
        piece.sort refl)

    go : (s : Sort) → Quiet fs (piece_inside layout.polarity s piece (portion (readings.Cells layout) nest at r) [])
    go sorts.Free = none_quiet fs
    go sorts.Stub = none_quiet fs
    go sorts.Lost = run_ahead fs kinds.Unread (inside nest) 0 piece.span (portion (readings.Cells layout) nest at r) [] found
        (none_quiet fs)
    go sorts.File = file
    go sorts.Pad = file
    go sorts.Dead = file

  -- the rows of clean cells have no findings
  cells_quiet : (fs : List BodyFile) (k : ℕ) (layout : Layout) (nest : Nesting) (at : ℕ) (r : List ℕ) (later : List PortionForm)
      → nest.levels ≡ n → 0 < nest.found → length r ≤ k → length r % 8 ≡ 0 → CleanPieces (IsCleanStream n) layout fs k r → Quiet fs later
      → Quiet fs (ahead (portion (readings.Cells layout) nest at r) later)
  cells_quiet fs zero layout nest at r later level found few in_eights clean rest =
      ahead_quiet fs (portion (readings.Cells layout) nest at r) later (λ some. absurd (omega (arith, some, few))) rest
  cells_quiet fs (suc k) layout nest at r later level found few in_eights clean rest =
      ahead_quiet fs (portion (readings.Cells layout) nest at r) later (λ some.
      let piece : Piece = piece_by layout r in
      let here = clean some in
      let lies = piece_lies layout r some in_eights in
      let long : length (field piece.span (length r - piece.span) r) ≡ length r - piece.span =
      ap length (rest_of piece.span r) ∙ length-drop piece.span r in
      tree_quiet fs (portion (readings.Cells layout) nest at r) later
      (λ plain. said_findings piece.sort piece ∙ here.0)
      (λ plain kept. piece_quiet fs layout nest at r piece level found
      (λ file holds. here.1 (and_join _ _ (and_join _ _ file holds) (ap not kept))) piece.sort)
      (cells_quiet fs k layout nest (at + piece.span) (field piece.span (length r - piece.span) r) later level found
      (omega (arith, long, lies.some, few)) (omega (arith, long, lies.within, lies.multiple, in_eights))
      (subst (CleanPieces (IsCleanStream n) layout fs k) (sym (rest_of piece.span r)) here.2) rest)) rest

-- ---- volumes

-- an allowed file system is known
allowed_known : (g : List ℕ) → is_allowed g ≡ true → files_by g ≡ files.Unknown → ⊥
allowed_known g =
    go (bytes_eq g (system_guid systems.Ffs2)) (bytes_eq g (system_guid systems.Ffs3)) (bytes_eq g ffs1_guid) (bytes_eq g variables_guid)
    (is_vendors g)
  where
    go : (s t u v w : Bool) → (s || t || v) ≡ true
        → (if s then files.Ffs2 else (if t then files.Ffs3 else (if u then files.Ffs1 else (if v then files.Store
        else (if w then files.Ffs2 else files.Unknown))))) ≡ files.Unknown → ⊥
    go true t u v w allowed is = let p : files.Ffs2 ≡ files.Unknown = is in cc
    go false true u v w allowed is = let p : files.Ffs3 ≡ files.Unknown = is in cc
    go false false true v w allowed is = let p : files.Ffs1 ≡ files.Unknown = is in cc
    go false false false true w allowed is = let p : files.Store ≡ files.Unknown = is in cc
    go false false false false w allowed is = cc

-- the cells of a volume without findings end at its end
whole_cells : (x first len : ℕ) → first ≡ min (up_to_8 x) len → len % 8 ≡ 0 → (first ≤ len) × (cells_end first len ≡ len)
whole_cells x first len is in_eights = (omega (arith, is), omega (arith, is, in_eights))

module _ (n : ℕ) (bodies : BodyQuiet (CleanAt n) n) where
  -- the rows of a clean volume have no findings
  volume_quiet : (fs : List BodyFile) (nest : Nesting) (at : ℕ) (b : List ℕ) (later : List PortionForm) → nest.levels ≡ n
      → 0 < nest.found → IsCleanVolume n b → Quiet fs later → Quiet fs (portion readings.Volume nest at b ∷ later)
  volume_quiet fs nest at b later level found v rest =
      let parts : Parts = parts_by b in
      let own : List BodyFile = body_files parts b in
      let q : PortionForm = portion readings.Volume nest at b in
      let body : List PortionForm = body_inside parts.files (inside nest) parts q [] in
      let filler : List PortionForm = ahead (cut (readings.Leaf kinds.Filler none) (inside nest) parts.ext_end parts.first q) body in
      let ext : List PortionForm = ahead (cut (readings.Leaf kinds.ExtHeader none) (inside nest) parts.ext parts.ext_end q) filler in
      tree_quiet fs q later
      (λ plain. ap (λ a. united a (name_findings parts b)) v.header ∙ ap (united none) v.names)
      (λ plain kept.
      leaf_quiet own kinds.VolumeHeader (inside nest) 0 parts.header q
      (ahead (cut (readings.Run kinds.Between) (inside nest) parts.header parts.ext q) ext)
      (run_ahead own kinds.Between (inside nest) parts.header parts.ext q ext found
      (leaf_quiet own kinds.ExtHeader (inside nest) parts.ext parts.ext_end q filler
      (leaf_quiet own kinds.Filler (inside nest) parts.ext_end parts.first q body (cells parts.files refl v.pieces)))))
      rest
    where
      sound : IsSound b
      sound = sound_is b v.least (ap bits_of v.header)

      in_eights : length b % 8 ≡ 0
      in_eights = ap (λ k. k % 8) (sym v.whole)
          ∙ eqb-true _ _ ((and_split _ _ ((and_split _ _ (sound.checks.1.1.1.1.1.1.1.1.0 (λ e. cc))).0)).0)

      ends : ((parts_by b).first ≤ length b) × (cells_end (parts_by b).first (length b) ≡ length b)
      ends = whole_cells (ext_by b).1 (parts_by b).first (length b) refl in_eights

      lost : Quiet (body_files (parts_by b) b) (ahead (cut (readings.Lost (only faults.Length)) (inside nest)
          (cells_end (parts_by b).first (length b)) (length b) (portion readings.Volume nest at b)) [])
      lost =
          let ce : ℕ = cells_end (parts_by b).first (length b) in
          ahead_quiet (body_files (parts_by b) b) (cut (readings.Lost (only faults.Length)) (inside nest) ce (length b)
          (portion readings.Volume nest at b)) []
          (λ some. absurd (omega (arith, some, ap length (rest_of ce b), length-drop ce b, ends.1)))
          (none_quiet (body_files (parts_by b) b))

      filed : (let r : List ℕ = field (parts_by b).first (cells_end (parts_by b).first (length b) - (parts_by b).first) b in
          CleanPieces (IsCleanStream n) (layout_of (parts_by b)) (body_files (parts_by b) b) (length r) r)
          → Quiet (body_files (parts_by b) b) (ahead (portion (readings.Cells (layout_of (parts_by b))) (inside nest) (at + (parts_by b).first)
          (field (parts_by b).first (cells_end (parts_by b).first (length b) - (parts_by b).first) b))
          (ahead (cut (readings.Lost (only faults.Length)) (inside nest) (cells_end (parts_by b).first (length b)) (length b)
          (portion readings.Volume nest at b)) []))
      filed clean =
          let first : ℕ = (parts_by b).first in
          let r : List ℕ = field first (cells_end first (length b) - first) b in
          let long : length r ≡ cells_end first (length b) - first =
          length-take-le (cells_end first (length b) - first) (drop first b) (omega (arith, length-drop first b, ends.1)) in
          cells_quiet n bodies (body_files (parts_by b) b) (length r) (layout_of (parts_by b)) (inside nest) (at + first) r
          (ahead (cut (readings.Lost (only faults.Length)) (inside nest) (cells_end first (length b)) (length b)
          (portion readings.Volume nest at b)) [])
          level found (omega arith) (omega (arith, long)) clean lost

      cells : (f : Files) → (parts_by b).files ≡ f
          → (let r : List ℕ = cells_by f (parts_by b).first b in
          CleanPieces (IsCleanStream n) (layout_of (parts_by b)) (body_files (parts_by b) b) (length r) r)
          → Quiet (body_files (parts_by b) b) (body_inside f (inside nest) (parts_by b) (portion readings.Volume nest at b) [])
      cells files.Store e clean = absurd (v.filed e)
      cells files.Unknown e clean = absurd (allowed_known (field 16 16 b) sound.system e)
      cells files.Ffs1 e clean = filed clean
      cells files.Ffs2 e clean = filed clean
      cells files.Ffs3 e clean = filed clean

-- ---- the recursion

-- the rows of bodies without findings have none, at each depth
body_quiet : (n : ℕ) → BodyQuiet (CleanAt n) n
body_quiet zero fs nest p level found clean = go (body_form (kind_at p.bytes) (body_at p.bytes)) clean where
  go : (form : BodyForm) → CleanAt zero form (body_at p.bytes)
      → (is_too_deep nest form ≡ false) × Quiet fs (ahead (body_portion nest form p) [])
  go forms.Plain c = (
    refl,
    run_ahead fs kinds.Body nest (section_header_len_at p.bytes) (section_size_at p.bytes) p [] found
        (none_quiet fs),
  )
  go forms.Packed c = (
    refl,
    run_ahead fs kinds.Packed nest (section_header_len_at p.bytes) (section_size_at p.bytes) p [] found
        (none_quiet fs),
  )
  go forms.Group c = absurd c
  go forms.Volume c = absurd c
body_quiet (suc n) fs nest p level found clean = go (body_form (kind_at p.bytes) (body_at p.bytes)) clean (body_quiet n) where
  shallow : (nest.levels == 0) ≡ false
  shallow = grind (arith, nat_tests, level)

  go : (form : BodyForm) → CleanAt (suc n) form (body_at p.bytes) → BodyQuiet (CleanAt n) n
      → (is_too_deep nest form ≡ false) × Quiet fs (ahead (body_portion nest form p) [])
  go forms.Plain c bodies =
      (refl, run_ahead fs kinds.Body nest (section_header_len_at p.bytes) (section_size_at p.bytes) p [] found (none_quiet fs))
  go forms.Packed c bodies =
      (refl, run_ahead fs kinds.Packed nest (section_header_len_at p.bytes) (section_size_at p.bytes) p [] found (none_quiet fs))
  go forms.Group c bodies =
      let read : body_portion nest forms.Group p
      ≡ cut (readings.Sections none) (opened nest) (section_header_len_at p.bytes) (section_size_at p.bytes) p = rw shallow refl in (
        shallow,
        subst (λ (q : PortionForm). Quiet fs (ahead q [])) (sym read)
            (sections_quiet (CleanAt n) n bodies fs (length (body_at p.bytes)) none (opened nest) (p.at + section_header_len_at p.bytes)
            (body_at p.bytes) [] (omega (arith, level)) found refl (omega arith) c (none_quiet fs)),
      )
  go forms.Volume c bodies =
      let read : body_portion nest forms.Volume p
      ≡ cut readings.Volume (opened nest) (section_header_len_at p.bytes) (section_size_at p.bytes) p = rw shallow refl in (
        shallow,
        subst (λ (q : PortionForm). Quiet fs (ahead q [])) (sym read)
            (ahead_quiet fs (portion readings.Volume (opened nest) (p.at + section_header_len_at p.bytes) (body_at p.bytes)) []
            (λ some. volume_quiet n bodies fs (opened nest) (p.at + section_header_len_at p.bytes) (body_at p.bytes) [] (omega (arith, level)) found c
            (none_quiet fs)) (none_quiet fs)),
      )

-- if the strict reading gives a volume a meaning, no row of the volume has findings, apart from found volumes and
-- superseded files
pub meaning_rows : (n : ℕ) (p : PortionForm) (f : Forest) (m : Meaning) → p.reading ≡ readings.Volume → p.nest.levels ≡ n
    → 0 < p.nest.found → Denotes n p.bytes m → Reads f (p ∷ []) → NoFindings [] f (p ∷ [])
meaning_rows n p f m is level found means reads =
    let same : p ≡ portion readings.Volume p.nest p.at p.bytes = ap (λ r. portion r p.nest p.at p.bytes) is in
    let quiet : Quiet [] (portion readings.Volume p.nest p.at p.bytes ∷ []) =
    volume_quiet n (body_quiet n) [] p.nest p.at p.bytes [] level found (volume_is_clean n p.bytes m means) (none_quiet []) in
    subst (λ (q : PortionForm). Quiet [] (q ∷ [])) (sym same) quiet f reads
