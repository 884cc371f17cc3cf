-- A survey passes no volume in its runs. The steps:
-- 1. Only the rows of a run are part of a run (`first_in_run`).
-- 2. So what begins with the first row of a run ends where the run ends (`rest_ends`).
-- 3. No volume may begin in the bytes of a run before its first volume, and one may begin there (`run_sought`).
use Rattle.std.proofs.Common.{◌≡◌, ◌≤◌, ◌<◌, ◌||◌, ◌==◌, ℕ, ◌+◌, ◌-◌, List, [], ◌∷◌, Bool, true, false, if◌then◌else◌, arith}
use Rattle.std.proofs.Common.{length, take, drop, drop-drop, nat_lt, ltb-false, ltb-true, refl, sym, ap, ◌∙◌, subst}
use Rattle.std.proofs.lemmas.List.{drop-take}
use Rattle.fv_base.specs.Words.{field}
use Rattle.fv_base.specs.declared.fault.FaultKind.TheVariants as faults
use Rattle.fv_section.specs.Words.{section_size_at}
use Rattle.fv_survey.specs.declared.pieces.Piece.{Piece}
use Rattle.fv_survey.specs.declared.pieces.Sort.{Sort}
use Rattle.fv_survey.specs.declared.pieces.Sort.TheVariants as sorts
use Rattle.fv_survey.specs.declared.portion.Reading.{Reading}
use Rattle.fv_survey.specs.declared.portion.Reading.TheVariants as readings
use Rattle.fv_survey.specs.declared.row.Row.{Row}
use Rattle.fv_survey.specs.declared.row.RowKind.{RowKind}
use Rattle.fv_survey.specs.declared.row.RowKind.TheVariants as kinds
use Rattle.fv_survey.specs.Words.{Bare, Forest, NoStart, PassesNothing, PortionForm, Reads, Sought, Tree, after_as, begins_section}
use Rattle.fv_survey.specs.Words.{body_at, body_form, cut, first_start, found_volume, has_finding, in_run, inside_as, is_searched}
use Rattle.fv_survey.specs.Words.{is_too_deep, kind_at, may_begin, none, only, piece_by, piece_said, plain_opening, row_as, row_of}
use Rattle.fv_survey.specs.Words.{run_after, run_end, run_row, section_findings, section_opening, volume_end, volume_said}
use Rattle.fv_survey.specs.Words.{with_if}
use Rattle.fv_survey.proofs.FittingLaws.{ahead_by}
use Rattle.fv_survey.proofs.PlaceLaws.{is_run, ReadsAs, IsPlaced, NoRun, Placed, cut_bytes, begins, inside_placed, after_placed}
use Rattle.fv_survey.proofs.PortionLaws.{length-cut}
use Rattle.fv_survey.proofs.RuleLaws.{volume_end_lies}
use Rattle.fv_survey.proofs.StartLaws.{begins_long, start_within, start_none}

-- ---- the first row of a portion

-- a property of the first row of a run
run_by : (P : Row → Type 0) (kind : RowKind) (p : PortionForm)
    → (0 < first_start p.bytes → P (row_of (plain_opening kind none) (first_start p.bytes) p))
    → P (row_of (plain_opening kinds.Unread (only faults.Depth)) (length p.bytes) p)
    → (first_start p.bytes ≡ 0 → P (row_of (volume_said true (found_volume p).bytes) (volume_end p.bytes) p)) → P (run_row kind p)
run_by P kind p before deep found = go (nat_lt 0 (first_start p.bytes)) (p.nest.found == 0) refl where
  go : (v w : Bool) → nat_lt 0 (first_start p.bytes) ≡ v → P (if v then row_of (plain_opening kind none) (first_start p.bytes) p
      else (if w then row_of (plain_opening kinds.Unread (only faults.Depth)) (length p.bytes) p
      else row_of (volume_said true (found_volume p).bytes) (volume_end p.bytes) p))
  go true w e = before (ltb-true 0 (first_start p.bytes) e)
  go false true e = deep
  go false false e = found (omega (arith, ltb-false 0 (first_start p.bytes) e))

run_in_run : (kind : RowKind) (p : PortionForm) → is_searched kind ≡ true → in_run (run_row kind p) ≡ true
run_in_run kind p e = run_by (λ row. in_run row ≡ true) kind p (λ _. ap (λ v. v || false) e) refl (λ _. refl)

run_at : (kind : RowKind) (p : PortionForm) → (run_row kind p).offset ≡ p.at
run_at kind p = run_by (λ row. row.offset ≡ p.at) kind p (λ _. refl) refl (λ _. refl)

run_within : (kind : RowKind) (p : PortionForm) → 0 < length p.bytes → (run_row kind p).length ≤ length p.bytes
run_within kind p some =
    run_by (λ row. row.length ≤ length p.bytes) kind p (λ _. start_within p.bytes) (omega arith)
    (λ e. (volume_end_lies p.bytes (begins_long p.bytes (begins p.bytes some e))).1)

-- the first row is part of a run if the portion is one
first_in_run : (reading : Reading) (p : PortionForm) → ReadsAs reading (length p.bytes) → in_run (row_as reading p) ≡ is_run reading
first_in_run (readings.Leaf kind findings) p reads = ap (λ v. v || false) reads
first_in_run (readings.Run kind) p reads = run_in_run kind p reads
first_in_run (readings.Lost findings) p reads = refl
first_in_run readings.Volume p reads = refl
first_in_run (readings.Cells layout) p reads = go (piece_by layout p.bytes).sort (piece_by layout p.bytes) where
  go : (sort : Sort) (piece : Piece) → in_run (row_of (piece_said sort piece) piece.span p) ≡ false
  go sorts.Free piece = refl
  go sorts.Stub piece = refl
  go sorts.Lost piece = refl
  go sorts.File piece = refl
  go sorts.Pad piece = refl
  go sorts.Dead piece = refl
first_in_run (readings.Sections odd) p reads = go (begins_section p.bytes) where
  too_deep : Bool
  too_deep = is_too_deep p.nest (body_form (kind_at p.bytes) (body_at p.bytes))

  go : (v : Bool) → in_run (if v
      then row_of (section_opening (kind_at p.bytes) (with_if too_deep faults.Depth odd)) (section_size_at p.bytes) p
      else row_of (plain_opening kinds.Lost (section_findings p.bytes)) (length p.bytes) p) ≡ false
  go true = refl
  go false = refl

-- ---- where a run ends

run_in : (at : ℕ) (row : Row) (below after : Forest) → in_run row ≡ true
    → run_end at (Tree row below after) ≡ run_end (row.offset + row.length) after
run_in at row below after e = rw e refl

run_out : (at : ℕ) (row : Row) (below after : Forest) → in_run row ≡ false → run_end at (Tree row below after) ≡ at
run_out at row below after e = rw e refl

-- a run has ended before the rows of portions that do not begin with one
closed_end : (b : List ℕ) (ps : List PortionForm) (at : ℕ) (f : Forest) → Placed b ps → NoRun ps → Reads f ps → run_end at f ≡ at
closed_end b ps at Bare all n r = refl
closed_end b [] at (Tree row below after) all n r = absurd r
closed_end b (p ∷ ps) at (Tree row below after) (placed, reads, apart, rest) n (e, inner, more) =
    run_out at row below after (ap in_run e ∙ first_in_run p.reading p reads ∙ n)

-- the bytes of a run after its first row
abbrev rest_of : RowKind → PortionForm → PortionForm
rest_of kind p = cut (readings.Run kind) p.nest (run_row kind p).length (length p.bytes) p

rest_long : (kind : RowKind) (p : PortionForm) → 0 < length p.bytes
    → (run_row kind p).length + length (rest_of kind p).bytes ≡ length p.bytes
rest_long kind p some =
    let within = run_within kind p some in
    let long = length-cut (readings.Run kind) p.nest (run_row kind p).length (length p.bytes) p within (omega arith) in
    omega (arith, within, long)

-- the run goes on after its first row to the end of the portion
abbrev Ends : RowKind → PortionForm → Forest → Type 0
Ends kind p f = run_end (p.at + (run_row kind p).length) f ≡ p.at + length p.bytes

rest_ends : (b : List ℕ) (kind : RowKind) (p : PortionForm) (ps : List PortionForm) (f : Forest) → IsPlaced b p
    → is_searched kind ≡ true → NoRun ps → Placed b ps → Reads f (run_after kind p ps) → Ends kind p f
rest_ends b kind p ps Bare placed e n rest =
    ahead_by (λ qs. Reads Bare qs → Ends kind p Bare) (rest_of kind p) ps
    (λ _ empty. let bad : rest_of kind p ∷ ps ≡ [] = empty in cc)
    (λ z _. omega (arith, z, rest_long kind p placed.some))
rest_ends b kind p ps (Tree row below after) placed e n rest =
    ahead_by (λ qs. Reads (Tree row below after) qs → Ends kind p (Tree row below after)) (rest_of kind p) ps
    (some (rest_ends b kind (rest_of kind p) ps after)) nothing
  where
    some : (IsPlaced b (rest_of kind p) → is_searched kind ≡ true → NoRun ps → Placed b ps
        → Reads after (run_after kind (rest_of kind p) ps) → Ends kind (rest_of kind p) after)
        → 0 < length (rest_of kind p).bytes → Reads (Tree row below after) (rest_of kind p ∷ ps) → Ends kind p (Tree row below after)
    some ends s (is, inner, more) =
        let here : IsPlaced b (rest_of kind p) = record {
          some = s;
          bytes = cut_bytes b (readings.Run kind) p.nest (run_row kind p).length (length p.bytes) p placed;
        } in
        let last : (rest_of kind p).at + length (rest_of kind p).bytes ≡ p.at + length p.bytes =
        omega (arith, rest_long kind p placed.some) in
        run_in (p.at + (run_row kind p).length) row below after (ap in_run is ∙ run_in_run kind (rest_of kind p) e)
        ∙ ap (λ (r : Row). run_end (r.offset + r.length) after) is
        ∙ ap (λ k. run_end (k + (run_row kind (rest_of kind p)).length) after) (run_at kind (rest_of kind p))
        ∙ ends here e n rest more ∙ last

    nothing : length (rest_of kind p).bytes ≡ 0 → Reads (Tree row below after) ps → Ends kind p (Tree row below after)
    nothing z r =
        let last : p.at + (run_row kind p).length ≡ p.at + length p.bytes = omega (arith, z, rest_long kind p placed.some) in
        closed_end b ps (p.at + (run_row kind p).length) (Tree row below after) rest n r ∙ last

-- ---- where volumes may begin

-- the bytes of a portion from an offset on
behind : (b a : List ℕ) (at q : ℕ) → a ≡ field at (length a) b → at ≤ q → q ≤ at + length a
    → drop (q - at) a ≡ field (q - 0) (at + length a - q) b
behind b a at q e l u =
    let whole : length a ≡ (q - at) + (at + length a - q) = omega (arith, l, u) in
    let place : at + (q - at) ≡ q - 0 = omega (arith, l) in
    ap (drop (q - at)) (e ∙ ap (λ (n : ℕ). take n (drop at b)) whole) ∙ drop-take (q - at) (at + length a - q) (drop at b)
    ∙ ap (take (at + length a - q)) (drop-drop (q - at) at b ∙ ap (λ (k : ℕ). drop k b) place)

run_sought : (b : List ℕ) (kind : RowKind) (p : PortionForm) → IsPlaced b p → Sought b 0 (p.at + length p.bytes) (run_row kind p)
run_sought b kind p placed = run_by (Sought b 0 (p.at + length p.bytes)) kind p before deep found where
  before : 0 < first_start p.bytes → Sought b 0 (p.at + length p.bytes) (row_of (plain_opening kind none) (first_start p.bytes) p)
  before s = (
    λ _ _ q l u. subst (λ (a : List ℕ). may_begin a ≡ false)
        (behind b p.bytes p.at q placed.bytes l (omega (arith, u, start_within p.bytes)))
        (start_none p.bytes (q - p.at) (omega (arith, l, u))),
    λ f. let bad : false ≡ true = f in cc,
  )

  deep : Sought b 0 (p.at + length p.bytes) (row_of (plain_opening kinds.Unread (only faults.Depth)) (length p.bytes) p)
  deep = (λ _ f. let bad : true ≡ false = f in cc, λ f. let bad : false ≡ true = f in cc)

  whole : p.bytes ≡ field (p.at - 0) (p.at + length p.bytes - p.at) b
  whole =
      let place : p.at ≡ p.at - 0 = omega arith in
      let long : length p.bytes ≡ p.at + length p.bytes - p.at = omega arith in
      placed.bytes ∙ ap (λ (k : ℕ). field k (length p.bytes) b) place ∙ ap (λ (n : ℕ). field (p.at - 0) n b) long

  found : first_start p.bytes ≡ 0
      → Sought b 0 (p.at + length p.bytes) (row_of (volume_said true (found_volume p).bytes) (volume_end p.bytes) p)
  found e = (
    λ f. let bad : false ≡ true = f in cc,
    λ _. subst (λ (a : List ℕ). may_begin a ≡ true) whole (begins p.bytes placed.some e),
  )

-- ---- all rows

-- nothing is said of a row that is not part of a run
sought_out : (b : List ℕ) (base end : ℕ) (row : Row) → in_run row ≡ false → Sought b base end row
sought_out b base end row e = go (is_searched row.kind) row.found e where
  no : (P : Type 0) → false ≡ true → P
  no P f = let bad : false ≡ true = f in cc

  go : (v w : Bool) → (v || w) ≡ false → (v ≡ true → has_finding faults.Depth row.findings ≡ false
      → NoStart b base row.offset (row.offset + row.length) end)
      × (w ≡ true → may_begin (field (row.offset - base) (end - row.offset) b) ≡ true)
  go true w e = let bad : true ≡ false = e in cc
  go false true e = let bad : true ≡ false = e in cc
  go false false e = (λ f. no _ f, λ f. no _ f)

first_sought : (b : List ℕ) (reading : Reading) (p : PortionForm) (ps : List PortionForm) (after : Forest) → IsPlaced b p
    → ReadsAs reading (length p.bytes) → (is_run reading ≡ true → NoRun ps) → Placed b ps → Reads after (after_as reading p ps)
    → Sought b 0 (run_end ((row_as reading p).offset + (row_as reading p).length) after) (row_as reading p)
first_sought b (readings.Run kind) p ps after placed reads apart rest r =
    let begin = ap (λ k. run_end (k + (run_row kind p).length) after) (run_at kind p) in
    let end = rest_ends b kind p ps after placed reads (apart refl) rest r in
    subst (λ e. Sought b 0 e (run_row kind p)) (sym (begin ∙ end)) (run_sought b kind p placed)
first_sought b reading p ps after placed reads apart rest r = sought_out b 0 _ (row_as reading p) (first_in_run reading p reads)

-- the reading of placed portions passes no volume in its runs
pub all_passed : (b : List ℕ) (f : Forest) (ps : List PortionForm) → Placed b ps → Reads f ps → PassesNothing b 0 f
all_passed b Bare ps all r = tt
all_passed b (Tree row below after) [] all r = absurd r
all_passed b (Tree row below after) (p ∷ ps) (placed, reads, apart, rest) (e, inner, more) = (
  subst (λ (first : Row). Sought b 0 (run_end (first.offset + first.length) after) first) (sym e)
      (first_sought b p.reading p ps after placed reads apart rest more),
  all_passed b below (inside_as p.reading p []) (inside_placed b p.reading p placed reads) inner,
  all_passed b after (after_as p.reading p ps) (after_placed b p.reading p ps placed reads apart rest) more,
)
