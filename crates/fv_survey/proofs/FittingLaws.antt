-- What a step puts back fits again, and gives fewer rows than the portion that it takes (`step_keeps`).
use Rattle.std.proofs.Common.{◌≡◌, ◌≤◌, ◌<◌, ℕ, ◌+◌, ◌-◌, ◌*◌, ◌%◌, ◌^◌, ◌==◌, List, ◌∷◌, Bool, true, false, nat_lt, ◌&&◌, length, refl, sym, ap, subst, arith, if◌then◌else◌}
use Rattle.std.specs.List.{AllByRecursion}
use Rattle.fv_base.specs.declared.fault.FaultKind.TheVariants as faults
use Rattle.fv_survey.specs.declared.portion.Nesting.{Nesting}
use Rattle.fv_survey.specs.declared.portion.Reading.{Reading}
use Rattle.fv_survey.specs.declared.portion.Reading.TheVariants as readings
use Rattle.fv_survey.specs.declared.parts.Parts.{Parts}
use Rattle.fv_survey.specs.declared.systems.Files.{Files}
use Rattle.fv_survey.specs.declared.systems.Files.TheVariants as files
use Rattle.fv_survey.specs.declared.row.RowKind.TheVariants as kinds
use Rattle.fv_survey.specs.Words.{Fits, FitsAs, IsShallow, IsShallowRun, PortionForm, after_as, after_first, ahead, begins_section}
use Rattle.fv_survey.specs.Words.{body_at, body_form, body_inside, body_portion, body_reading, cells_after, cells_end, cells_inside, cut}
use Rattle.fv_survey.specs.Words.{data_reading, file_inside, first_start, found_volume, inside, inside_as, inside_first, is_opened}
use Rattle.fv_survey.specs.Words.{is_searched, kind_at, layout_of, lost_inside, most_as, most_rows, next_at, none, only, opened, parts_by}
use Rattle.fv_survey.specs.Words.{piece_by, piece_inside, place_findings, run_after, run_inside, searched, sections_after}
use Rattle.fv_survey.specs.Words.{sections_inside, volume_end, volume_inside}
use Rattle.fv_base.proofs.Laws.{nat_tests}
use Rattle.fv_survey.specs.declared.row.RowKind.{RowKind}
use Rattle.fv_base.specs.Words.{all_are, erased_byte, field}
use Rattle.fv_base.specs.declared.flash.Polarity.{Polarity}
use Rattle.fv_section.specs.Words.{section_header_len_at, section_size_at}
use Rattle.fv_survey.specs.declared.pieces.Layout.{Layout}
use Rattle.fv_survey.specs.declared.pieces.Piece.{Piece}
use Rattle.fv_survey.specs.declared.pieces.Sort.{Sort}
use Rattle.fv_survey.specs.declared.pieces.Sort.TheVariants as sorts
use Rattle.fv_survey.specs.declared.section_step.BodyForm.{BodyForm}
use Rattle.fv_survey.specs.declared.section_step.BodyForm.TheVariants as forms
use Rattle.fv_survey.specs.inner.Pieces.{IsPiece, is_node}
use Rattle.fv_tree.specs.Words.{holds_sections}
use Rattle.fv_survey.proofs.PortionLaws.{length-cut}
use Rattle.fv_survey.proofs.RunLaws.{deep_inside, found_inside}
use Rattle.fv_survey.proofs.RuleLaws.{volume_end_lies, parts_lie, piece_lies, start_within, start_long, section_lies, volume_long, SectionLies}

-- the portions fit, and give at most n rows
pub record Keeps (n : ℕ) (ps : List PortionForm) : Type 0 where
  pub fit : AllByRecursion Fits ps
  pub most : most_rows ps ≤ n

pub keeps_more : (m n : ℕ) (ps : List PortionForm) → m ≤ n → Keeps m ps → Keeps n ps
keeps_more m n ps l k = record { fit = k.fit; most = omega (arith, l, k.most) }

-- a portion put ahead of others, by whether it has bytes
pub ahead_by : (P : List PortionForm → Type 0) (p : PortionForm) (ps : List PortionForm) → (0 < length p.bytes → P (p ∷ ps))
    → (length p.bytes ≡ 0 → P ps) → P (ahead p ps)
ahead_by P p ps some nothing = go (length p.bytes == 0) refl where
  go : (v : Bool) → (length p.bytes == 0) ≡ v → P (if v then ps else p ∷ ps)
  go true e = nothing (grind (arith, nat_tests, e))
  go false e = some (grind (arith, nat_tests, e))

-- a portion that is cut from another and put ahead: it gives at most c rows
pub put_keeps : (reading : Reading) (nest : Nesting) (from to : ℕ) (p : PortionForm) (ps : List PortionForm) (n c : ℕ) → from ≤ to
    → to ≤ length p.bytes → p.at + length p.bytes < 2 ^ 63 → (from < to → FitsAs reading nest (to - from))
    → (from < to → most_as reading (to - from) ≤ c) → Keeps n ps → Keeps (c + n) (ahead (cut reading nest from to p) ps)
put_keeps reading nest from to p ps n c l u room fits most k = ahead_by (Keeps (c + n)) (cut reading nest from to p) ps some none
  where
    long : length (cut reading nest from to p).bytes ≡ to - from
    long = length-cut reading nest from to p l u

    some : 0 < length (cut reading nest from to p).bytes → Keeps (c + n) (cut reading nest from to p ∷ ps)
    some s =
        let less : from < to = omega (arith, s, long) in
        record {
          fit = ((s, omega (arith, room, long, u, l), subst (FitsAs reading nest) (sym long) (fits less)), k.fit);
          most = omega (arith, ap (most_as reading) long, most less, k.most);
        }

    none : length (cut reading nest from to p).bytes ≡ 0 → Keeps (c + n) ps
    none e = keeps_more n (c + n) ps (omega arith) k

-- ---- volumes

-- whole cells end within the body
whole_within : (first n : ℕ) → first ≤ n → (first ≤ cells_end first n) × (cells_end first n ≤ n) × ((cells_end first n - first) % 8 ≡ 0)
whole_within first n l = (omega arith, omega (arith, l), omega arith)

cells_keep : (nest : Nesting) (parts : Parts) (p : PortionForm) (ps : List PortionForm) (n : ℕ) → parts.first ≤ length p.bytes
    → p.at + length p.bytes < 2 ^ 63 → IsShallow 5 nest → Keeps n ps
    → Keeps (2 * (length p.bytes - parts.first) + n) (body_inside files.Ffs2 nest parts p ps)
cells_keep nest parts p ps n u room s k =
    let e : ℕ = cells_end parts.first (length p.bytes) in
    let w = whole_within parts.first (length p.bytes) u in
    let odd = put_keeps (readings.Lost (only faults.Length)) nest e (length p.bytes) p ps n (2 * (length p.bytes - e)) w.1 (omega arith) room
    (λ _. omega (arith, s)) (λ _. omega arith) k in
    keeps_more (2 * (e - parts.first) + (2 * (length p.bytes - e) + n)) (2 * (length p.bytes - parts.first) + n)
    (ahead (cut (readings.Cells (layout_of parts)) nest parts.first e p)
    (ahead (cut (readings.Lost (only faults.Length)) nest e (length p.bytes) p) ps)) (omega (arith, w.0, w.1))
    (put_keeps (readings.Cells (layout_of parts)) nest parts.first e p
    (ahead (cut (readings.Lost (only faults.Length)) nest e (length p.bytes) p) ps) (2 * (length p.bytes - e) + n) (2 * (e - parts.first))
    w.0 w.1 room (λ _. (w.2, s)) (λ _. omega arith) odd)

body_keeps : (f : Files) (nest : Nesting) (parts : Parts) (p : PortionForm) (ps : List PortionForm) (n : ℕ) → parts.first ≤ length p.bytes
    → p.at + length p.bytes < 2 ^ 63 → IsShallow 5 nest → Keeps n ps → Keeps (2 * (length p.bytes - parts.first) + n) (body_inside f nest parts p ps)
body_keeps files.Store nest parts p ps n u room s k =
    put_keeps (readings.Run kinds.Store) nest parts.first (length p.bytes) p ps n (2 * (length p.bytes - parts.first)) u (omega arith) room
    (λ _. (refl, omega (arith, s))) (λ _. omega arith) k
body_keeps files.Unknown nest parts p ps n u room s k =
    put_keeps (readings.Lost (only faults.FileSystem)) nest parts.first (length p.bytes) p ps n (2 * (length p.bytes - parts.first)) u (omega arith) room
    (λ _. omega (arith, s)) (λ _. omega arith) k
body_keeps files.Ffs1 nest parts p ps n u room s k = cells_keep nest parts p ps n u room s k
body_keeps files.Ffs2 nest parts p ps n u room s k = cells_keep nest parts p ps n u room s k
body_keeps files.Ffs3 nest parts p ps n u room s k = cells_keep nest parts p ps n u room s k

-- the portions of a volume
pub volume_keeps : (p : PortionForm) (ps : List PortionForm) (n : ℕ) → 56 ≤ length p.bytes → p.at + length p.bytes < 2 ^ 63
    → IsShallow 6 p.nest → Keeps n ps → Keeps (2 * length p.bytes - 3 + n) (volume_inside p ps)
volume_keeps p ps n long room s k =
    let parts : Parts = parts_by p.bytes in
    let lie = parts_lie p.bytes long in
    let nest : Nesting = inside p.nest in
    let m : ℕ = length p.bytes in
    let body = body_keeps parts.files nest parts p ps n lie.within room (omega (arith, s)) k in
    let filler = put_keeps (readings.Leaf kinds.Filler none) nest parts.ext_end parts.first p (body_inside parts.files nest parts p ps)
    (2 * (m - parts.first) + n) (2 * (parts.first - parts.ext_end)) lie.first lie.within room (λ _. refl) (λ l. omega (arith, l)) body in
    let ext = put_keeps (readings.Leaf kinds.ExtHeader none) nest parts.ext parts.ext_end p _
    (2 * (parts.first - parts.ext_end) + (2 * (m - parts.first) + n)) (2 * (parts.ext_end - parts.ext)) lie.end
    (omega (arith, lie.first, lie.within)) room (λ _. refl) (λ l. omega (arith, l)) filler in
    let between = put_keeps (readings.Run kinds.Between) nest parts.header parts.ext p _
    (2 * (parts.ext_end - parts.ext) + (2 * (parts.first - parts.ext_end) + (2 * (m - parts.first) + n)))
    (2 * (parts.ext - parts.header)) lie.ext (omega (arith, lie.end, lie.first, lie.within)) room
    (λ _. (refl, omega (arith, s))) (λ _. omega arith) ext in
    keeps_more _ (2 * m - 3 + n) (volume_inside p ps) (omega (arith, long, lie.header, lie.ext, lie.end, lie.first, lie.within))
    (put_keeps (readings.Leaf kinds.VolumeHeader none) nest 0 parts.header p _
    (2 * (parts.ext - parts.header) + (2 * (parts.ext_end - parts.ext) + (2 * (parts.first - parts.ext_end) + (2 * (m - parts.first) + n))))
    1 (omega arith) (omega (arith, lie.ext, lie.end, lie.first, lie.within)) room (λ _. refl) (λ _. omega arith) between)

-- ---- bytes without a structure

run_before : (kind : RowKind) (p : PortionForm) (ps : List PortionForm) → nat_lt 0 (first_start p.bytes) ≡ true
    → run_inside p (run_after kind p ps) ≡ ahead (cut (readings.Run kind) p.nest (first_start p.bytes) (length p.bytes) p) ps
run_before kind p ps e = rw e refl

run_keeps : (kind : RowKind) (p : PortionForm) (ps : List PortionForm) (n : ℕ) → 0 < length p.bytes → p.at + length p.bytes < 2 ^ 63
    → is_searched kind ≡ true → IsShallowRun 0 p.nest → Keeps n ps → Keeps (2 * length p.bytes - 2 + n) (run_inside p (run_after kind p ps))
run_keeps kind p ps n some room sought shallow k = go (nat_lt 0 (first_start p.bytes)) refl (p.nest.found == 0) refl where
  m : ℕ
  m = length p.bytes

  go : (v : Bool) → nat_lt 0 (first_start p.bytes) ≡ v → (w : Bool) → (p.nest.found == 0) ≡ w
      → Keeps (2 * m - 2 + n) (run_inside p (run_after kind p ps))
  go true e w d =
      let late : 0 < first_start p.bytes = grind (arith, nat_tests, e) in
      subst (Keeps (2 * m - 2 + n)) (sym (run_before kind p ps e))
      (keeps_more (2 * (m - first_start p.bytes) + n) (2 * m - 2 + n) _ (omega (arith, late, start_within p.bytes))
      (put_keeps (readings.Run kind) p.nest (first_start p.bytes) m p ps n (2 * (m - first_start p.bytes)) (start_within p.bytes) (omega arith) room
      (λ _. (sought, shallow)) (λ _. omega arith) k))
  go false e true d =
      subst (Keeps (2 * m - 2 + n)) (sym (deep_inside kind p ps e d))
      (keeps_more (0 + n) (2 * m - 2 + n) _ (omega (arith, some))
      (put_keeps (readings.Run kind) p.nest m m p ps n 0 (omega arith) (omega arith) room
      (λ l. absurd (omega (arith, l))) (λ l. absurd (omega (arith, l))) k))
  go false e false d =
      let zero_is : first_start p.bytes ≡ 0 = grind (arith, nat_tests, e) in
      let found : 0 < p.nest.found = grind (arith, nat_tests, d) in
      let lies = volume_end_lies p.bytes (start_long p.bytes some zero_is) in
      let long : length (found_volume p).bytes ≡ volume_end p.bytes - 0 =
      length-cut readings.Volume (searched p.nest) 0 (volume_end p.bytes) p (omega arith) (lies.1) in
      subst (Keeps (2 * m - 2 + n)) (sym (found_inside kind p ps e d))
      (keeps_more _ (2 * m - 2 + n) _ (omega (arith, long, lies.0, lies.1))
      (volume_keeps (found_volume p) _ (2 * (m - volume_end p.bytes) + n) (omega (arith, long, lies.0)) (omega (arith, long, lies.1, room))
      (omega (arith, shallow, found))
      (put_keeps (readings.Run kind) p.nest (volume_end p.bytes) m p ps n (2 * (m - volume_end p.bytes)) (lies.1) (omega arith) room
      (λ _. (sought, shallow)) (λ _. omega arith) k)))

-- ---- cells

-- the portions of a file, a pad or a deleted file
file_keeps : (polarity : Polarity) (piece : Piece) (p : PortionForm) (ps : List PortionForm) (n : ℕ) → IsPiece (length p.bytes) piece
    → 0 < piece.header → p.at + length p.bytes < 2 ^ 63 → IsShallow 5 p.nest → Keeps n ps
    → Keeps (2 * piece.span - 1 + n) (file_inside polarity piece p ps)
file_keeps polarity piece p ps n is headed room s k =
    let nest : Nesting = inside p.nest in
    let b : List ℕ = field piece.header (piece.size - piece.header) p.bytes in
    let reading : Reading = data_reading polarity piece.sort piece.code b in
    let filler = put_keeps (readings.Leaf kinds.Filler none) nest piece.size piece.span p ps n (2 * (piece.span - piece.size)) is.size is.within room
    (λ _. refl) (λ l. omega (arith, l)) k in
    let inner = put_keeps reading nest piece.header piece.size p (ahead (cut (readings.Leaf kinds.Filler none) nest piece.size piece.span p) ps)
    (2 * (piece.span - piece.size) + n) (2 * (piece.size - piece.header)) is.header (omega (arith, is.size, is.within)) room
    (λ _. data_fits polarity piece.sort piece.code b nest (piece.size - piece.header) (omega (arith, s)))
    (λ l. data_most polarity piece.sort piece.code b (piece.size - piece.header) (omega (arith, l))) filler in
    keeps_more (1 + (2 * (piece.size - piece.header) + (2 * (piece.span - piece.size) + n))) (2 * piece.span - 1 + n) (file_inside polarity piece p ps)
    (omega (arith, headed, is.header, is.size))
    (put_keeps (readings.Leaf kinds.FileHeader none) nest 0 piece.header p
    (ahead (cut reading nest piece.header piece.size p) (ahead (cut (readings.Leaf kinds.Filler none) nest piece.size piece.span p) ps))
    (2 * (piece.size - piece.header) + (2 * (piece.span - piece.size) + n)) 1 (omega arith) (omega (arith, is.header, is.size, is.within)) room
    (λ _. refl) (λ _. omega arith) inner)
  where
    data_fits : (polarity : Polarity) (sort : Sort) (code : ℕ) (b : List ℕ) (nest : Nesting) (m : ℕ) → IsShallow 4 nest
        → FitsAs (data_reading polarity sort code b) nest m
    data_fits polarity sorts.File code b nest m s = by_sections (holds_sections code) where
      by_sections : (v : Bool) → FitsAs (if v then readings.Sections none else readings.Run kinds.Data) nest m
      by_sections true = s
      by_sections false = (refl, omega (arith, s))
    data_fits polarity sorts.Pad code b nest m s = by_erased (all_are (erased_byte polarity) b) where
      by_erased : (v : Bool) → FitsAs (if v then readings.Leaf kinds.Pad none else readings.Run kinds.PadData) nest m
      by_erased true = refl
      by_erased false = (refl, omega (arith, s))
    data_fits polarity sorts.Dead code b nest m s = (refl, omega (arith, s))
    data_fits polarity sorts.Stub code b nest m s = (refl, omega (arith, s))
    data_fits polarity sorts.Free code b nest m s = (refl, omega (arith, s))
    data_fits polarity sorts.Lost code b nest m s = (refl, omega (arith, s))

    data_most : (polarity : Polarity) (sort : Sort) (code : ℕ) (b : List ℕ) (m : ℕ) → 0 < m → most_as (data_reading polarity sort code b) m ≤ 2 * m
    data_most polarity sorts.File code b m some = by_sections (holds_sections code) where
      by_sections : (v : Bool) → most_as (if v then readings.Sections none else readings.Run kinds.Data) m ≤ 2 * m
      by_sections true = omega arith
      by_sections false = omega arith
    data_most polarity sorts.Pad code b m some = by_erased (all_are (erased_byte polarity) b) where
      by_erased : (v : Bool) → most_as (if v then readings.Leaf kinds.Pad none else readings.Run kinds.PadData) m ≤ 2 * m
      by_erased true = omega (arith, some)
      by_erased false = omega arith
    data_most polarity sorts.Dead code b m some = omega arith
    data_most polarity sorts.Stub code b m some = omega arith
    data_most polarity sorts.Free code b m some = omega arith
    data_most polarity sorts.Lost code b m some = omega arith

-- lost bytes
lost_keeps : (m : ℕ) (p : PortionForm) (ps : List PortionForm) (n : ℕ) → 0 < m → m ≤ length p.bytes → p.at + length p.bytes < 2 ^ 63
    → IsShallowRun 1 p.nest → Keeps n ps → Keeps (2 * m - 1 + n) (lost_inside m p ps)
lost_keeps m p ps n some u room s k =
    put_keeps (readings.Run kinds.Unread) (inside p.nest) 0 m p ps n (2 * m - 1) (omega arith) u room (λ _. (refl, omega (arith, s))) (λ _. omega arith) k

piece_keeps : (polarity : Polarity) (sort : Sort) (piece : Piece) (p : PortionForm) (ps : List PortionForm) (n : ℕ) → IsPiece (length p.bytes) piece
    → (is_node sort ≡ true → 0 < piece.header) → p.at + length p.bytes < 2 ^ 63 → IsShallow 5 p.nest → Keeps n ps
    → Keeps (2 * piece.span - 1 + n) (piece_inside polarity sort piece p ps)
piece_keeps polarity sorts.Free piece p ps n is headed room s k = keeps_more n (2 * piece.span - 1 + n) ps (omega arith) k
piece_keeps polarity sorts.Stub piece p ps n is headed room s k = keeps_more n (2 * piece.span - 1 + n) ps (omega arith) k
piece_keeps polarity sorts.Lost piece p ps n is headed room s k = lost_keeps piece.span p ps n is.some is.within room (omega (arith, s)) k
piece_keeps polarity sorts.File piece p ps n is headed room s k = file_keeps polarity piece p ps n is (headed refl) room s k
piece_keeps polarity sorts.Pad piece p ps n is headed room s k = file_keeps polarity piece p ps n is (headed refl) room s k
piece_keeps polarity sorts.Dead piece p ps n is headed room s k = file_keeps polarity piece p ps n is (headed refl) room s k

cells_keeps : (layout : Layout) (p : PortionForm) (ps : List PortionForm) (n : ℕ) → 0 < length p.bytes → p.at + length p.bytes < 2 ^ 63
    → length p.bytes % 8 ≡ 0 → IsShallow 5 p.nest → Keeps n ps → Keeps (2 * length p.bytes - 1 + n) (cells_inside layout p (cells_after layout p ps))
cells_keeps layout p ps n some room multiple s k =
    let piece : Piece = piece_by layout p.bytes in
    let is = piece_lies layout p.bytes some multiple in
    keeps_more (2 * piece.span - 1 + (2 * (length p.bytes - piece.span) + n)) (2 * length p.bytes - 1 + n) (cells_inside layout p (cells_after layout p ps))
    (omega (arith, is.some, is.within))
    (piece_keeps layout.polarity piece.sort piece p (cells_after layout p ps) (2 * (length p.bytes - piece.span) + n) is is.headed room s
    (put_keeps (readings.Cells layout) p.nest piece.span (length p.bytes) p ps n (2 * (length p.bytes - piece.span)) is.within (omega arith) room
    (λ _. (multiple_less (length p.bytes) piece.span multiple is.multiple, s)) (λ _. omega arith) k))
  where
    multiple_less : (m n : ℕ) → m % 8 ≡ 0 → n % 8 ≡ 0 → (m - n) % 8 ≡ 0
    multiple_less m n e d = omega (arith, e, d)

-- ---- sections

body_keep : (nest : Nesting) (form : BodyForm) (p : PortionForm) (ps : List PortionForm) (n : ℕ) → SectionLies p.bytes
    → (form ≡ forms.Volume → 56 ≤ section_size_at p.bytes - section_header_len_at p.bytes)
    → p.at + length p.bytes < 2 ^ 63 → IsShallow 3 nest → Keeps n ps
    → Keeps (2 * (section_size_at p.bytes - section_header_len_at p.bytes) + n) (ahead (body_portion nest form p) ps)
body_keep nest form p ps n lies volume room s k = go form (nest.levels == 0) refl volume where
  h : ℕ
  h = section_header_len_at p.bytes

  m : ℕ
  m = section_size_at p.bytes

  u : m ≤ length p.bytes
  u = omega (arith, lies.next, lies.within)

  put : (reading : Reading) (deep : Nesting) → (h < m → FitsAs reading deep (m - h)) → (h < m → most_as reading (m - h) ≤ 2 * (m - h))
      → Keeps (2 * (m - h) + n) (ahead (cut reading deep h m p) ps)
  put reading deep fits most = put_keeps reading deep h m p ps n (2 * (m - h)) lies.size u room fits most k

  portion_by : Bool → BodyForm → PortionForm
  portion_by v form = if is_opened form && v then cut (readings.Lost (only faults.Depth)) nest h m p
      else cut (body_reading form) (if is_opened form then opened nest else nest) h m p

  go : (form : BodyForm) (v : Bool) → (nest.levels == 0) ≡ v → (form ≡ forms.Volume → 56 ≤ m - h)
      → Keeps (2 * (m - h) + n) (ahead (portion_by v form) ps)
  go forms.Packed v e long = put (readings.Run kinds.Packed) nest (λ _. (refl, omega (arith, s))) (λ _. omega arith)
  go forms.Plain v e long = put (readings.Run kinds.Body) nest (λ _. (refl, omega (arith, s))) (λ _. omega arith)
  go forms.Group true e long = put (readings.Lost (only faults.Depth)) nest (λ _. omega (arith, s)) (λ _. omega arith)
  go forms.Volume true e long = put (readings.Lost (only faults.Depth)) nest (λ _. omega (arith, s)) (λ _. omega arith)
  go forms.Group false e long =
      let levels : 0 < nest.levels = grind (arith, nat_tests, e) in
      put (readings.Sections none) (opened nest) (λ _. omega (arith, s, levels)) (λ _. omega arith)
  go forms.Volume false e long =
      let levels : 0 < nest.levels = grind (arith, nat_tests, e) in
      put readings.Volume (opened nest) (λ _. (long refl, omega (arith, s, levels))) (λ _. omega arith)

-- the portions of a section, and the portions after it
section_keeps : (p : PortionForm) (ps : List PortionForm) (n : ℕ) → begins_section p.bytes ≡ true → p.at + length p.bytes < 2 ^ 63
    → IsShallow 4 p.nest → Keeps n ps
    → Keeps (2 * length p.bytes - 1 + n) (ahead (cut (readings.Leaf kinds.SectionHeader none) (inside p.nest) 0 (section_header_len_at p.bytes) p)
    (ahead (body_portion (inside p.nest) (body_form (kind_at p.bytes) (body_at p.bytes)) p)
    (ahead (cut (readings.Leaf kinds.Filler none) p.nest (section_size_at p.bytes) (next_at p.bytes) p)
    (ahead (cut (readings.Sections (place_findings (next_at p.bytes) (length p.bytes))) p.nest (next_at p.bytes) (length p.bytes) p) ps))))
section_keeps p ps n e room s k =
    let b : List ℕ = p.bytes in
    let h : ℕ = section_header_len_at b in
    let m : ℕ = section_size_at b in
    let next : ℕ = next_at b in
    let lies = section_lies b e in
    let rest = put_keeps (readings.Sections (place_findings next (length b))) p.nest next (length b) p ps n (2 * (length b - next)) lies.within
    (omega arith) room (λ _. s) (λ _. omega arith) k in
    let filler = put_keeps (readings.Leaf kinds.Filler none) p.nest m next p
    (ahead (cut (readings.Sections (place_findings next (length b))) p.nest next (length b) p) ps)
    (2 * (length b - next) + n) (2 * (next - m)) lies.next lies.within room (λ _. refl) (λ l. omega (arith, l)) rest in
    let body = body_keep (inside p.nest) (body_form (kind_at b) (body_at b)) p _ (2 * (next - m) + (2 * (length b - next) + n)) lies
    (λ v. subst (λ (x : ℕ). 56 ≤ x) (long lies.size (omega (arith, lies.next, lies.within))) (volume_long (kind_at b) (body_at b) v)) room
    (omega (arith, s)) filler in
    keeps_more _ (2 * length b - 1 + n) _ (omega (arith, lies.header, lies.size, lies.next, lies.within))
    (put_keeps (readings.Leaf kinds.SectionHeader none) (inside p.nest) 0 h p _ (2 * (m - h) + (2 * (next - m) + (2 * (length b - next) + n))) 1
    (omega arith) (omega (arith, lies.size, lies.next, lies.within)) room (λ _. refl) (λ _. omega arith) body)
  where
    long : section_header_len_at p.bytes ≤ section_size_at p.bytes → section_size_at p.bytes ≤ length p.bytes
        → length (body_at p.bytes) ≡ section_size_at p.bytes - section_header_len_at p.bytes
    long l u = length-cut readings.Volume p.nest (section_header_len_at p.bytes) (section_size_at p.bytes) p l u

sections_keeps : (p : PortionForm) (ps : List PortionForm) (n : ℕ) → 0 < length p.bytes → p.at + length p.bytes < 2 ^ 63
    → IsShallow 4 p.nest → Keeps n ps → Keeps (2 * length p.bytes - 1 + n) (sections_inside p (sections_after p ps))
sections_keeps p ps n some room s k = go (begins_section p.bytes) refl where
  begun : begins_section p.bytes ≡ true → sections_inside p (sections_after p ps)
      ≡ ahead (cut (readings.Leaf kinds.SectionHeader none) (inside p.nest) 0 (section_header_len_at p.bytes) p)
      (ahead (body_portion (inside p.nest) (body_form (kind_at p.bytes) (body_at p.bytes)) p)
      (ahead (cut (readings.Leaf kinds.Filler none) p.nest (section_size_at p.bytes) (next_at p.bytes) p)
      (ahead (cut (readings.Sections (place_findings (next_at p.bytes) (length p.bytes))) p.nest (next_at p.bytes) (length p.bytes) p) ps)))
  begun e = rw e refl

  never : begins_section p.bytes ≡ false → sections_inside p (sections_after p ps) ≡ lost_inside (length p.bytes) p ps
  never e = rw e refl

  go : (v : Bool) → begins_section p.bytes ≡ v → Keeps (2 * length p.bytes - 1 + n) (sections_inside p (sections_after p ps))
  go true e = subst (Keeps (2 * length p.bytes - 1 + n)) (sym (begun e)) (section_keeps p ps n e room s k)
  go false e = subst (Keeps (2 * length p.bytes - 1 + n)) (sym (never e))
      (lost_keeps (length p.bytes) p ps n some (omega arith) room (omega (arith, s)) k)

-- ---- a step

-- what a step puts back gives fewer rows than its portion and the others
step_as : (reading : Reading) (p : PortionForm) (ps : List PortionForm) (n : ℕ) → 0 < length p.bytes → p.at + length p.bytes < 2 ^ 63
    → FitsAs reading p.nest (length p.bytes) → Keeps n ps
    → Keeps (most_as reading (length p.bytes) - 1 + n) (inside_as reading p (after_as reading p ps))
step_as (readings.Leaf kind findings) p ps n some room fits k = keeps_more n (1 - 1 + n) ps (omega arith) k
step_as (readings.Run kind) p ps n some room fits k =
    keeps_more (2 * length p.bytes - 2 + n) (2 * length p.bytes - 1 - 1 + n) (run_inside p (run_after kind p ps)) (omega arith)
    (run_keeps kind p ps n some room fits.0 fits.1 k)
step_as (readings.Lost findings) p ps n some room fits k = lost_keeps (length p.bytes) p ps n some (omega arith) room fits k
step_as readings.Volume p ps n some room fits k =
    keeps_more (2 * length p.bytes - 3 + n) (2 * length p.bytes - 2 - 1 + n) (volume_inside p ps) (omega arith)
    (volume_keeps p ps n fits.0 room fits.1 k)
step_as (readings.Cells layout) p ps n some room fits k = cells_keeps layout p ps n some room fits.0 fits.1 k
step_as (readings.Sections odd) p ps n some room fits k = sections_keeps p ps n some room fits k

-- a portion that fits gives a row
most_some : (p : PortionForm) → Fits p → 1 ≤ most_as p.reading (length p.bytes)
most_some p fits = go p.reading (length p.bytes) fits.0 fits.2 where
  go : (reading : Reading) (n : ℕ) → 0 < n → FitsAs reading p.nest n → 1 ≤ most_as reading n
  go (readings.Leaf kind findings) n some f = omega arith
  go (readings.Run kind) n some f = omega (arith, some)
  go (readings.Lost findings) n some f = omega (arith, some)
  go readings.Volume n some f = omega (arith, f.0)
  go (readings.Cells layout) n some f = omega (arith, some)
  go (readings.Sections odd) n some f = omega (arith, some)

pub step_keeps : (p : PortionForm) (ps : List PortionForm) → Fits p → AllByRecursion Fits ps
    → AllByRecursion Fits (inside_first p (after_first p ps))
    × (1 + most_rows (inside_first p (after_first p ps)) ≤ most_as p.reading (length p.bytes) + most_rows ps)
step_keeps p ps fits all =
    let k = step_as p.reading p ps (most_rows ps) fits.0 fits.1 fits.2 (record { fit = all; most = omega arith }) in
    (k.fit, omega (arith, k.most, most_some p fits))
