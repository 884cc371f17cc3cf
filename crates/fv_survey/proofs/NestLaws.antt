-- The forest of portions that lie one after another. The steps:
-- 1. The first row of a portion lies at the start of the portion and within it. The portions in this row lie one after
--    another from its first byte to its end, and the portions after it from there to the end of the portion. So it is
--    for each reading (`leaf_stands` up to `stands_as`).
-- 2. So the trees of the forest lie one after another (`reads_nest`).
use Rattle.std.proofs.Common.{◌≡◌, ◌≤◌, ◌<◌, ◌==◌, ◌||◌, nat_lt, ℕ, ◌+◌, List, [], ◌∷◌, Bool}
use Rattle.std.proofs.Common.{true, false, length, refl, sym, ap, ◌∙◌, subst, arith, if◌then◌else◌}
use Rattle.std.specs.List.{AllByRecursion}
use Rattle.fv_base.proofs.Laws.{nat_tests}
use Rattle.fv_base.specs.declared.fault.FaultKind.TheVariants as faults
use Rattle.fv_base.specs.declared.flash.Polarity.{Polarity}
use Rattle.fv_section.specs.Words.{section_header_len_at, section_size_at}
use Rattle.fv_survey.specs.declared.findings.Findings.{Findings}
use Rattle.fv_survey.specs.declared.pieces.Layout.{Layout}
use Rattle.fv_survey.specs.declared.pieces.Piece.{Piece}
use Rattle.fv_survey.specs.declared.pieces.Sort.{Sort}
use Rattle.fv_survey.specs.declared.pieces.Sort.TheVariants as sorts
use Rattle.fv_survey.specs.declared.portion.Opening.{Opening}
use Rattle.fv_survey.specs.declared.portion.Reading.{Reading}
use Rattle.fv_survey.specs.declared.portion.Reading.TheVariants as readings
use Rattle.fv_survey.specs.declared.row.Row.{Row}
use Rattle.fv_survey.specs.declared.row.RowKind.{RowKind}
use Rattle.fv_survey.specs.declared.row.RowKind.TheVariants as kinds
use Rattle.fv_survey.specs.Words.{Bare, Fits, FitsAs, Forest, Nest, PortionForm, Reads, Tree, after_as, after_first, ahead}
use Rattle.fv_survey.specs.Words.{begins_section, body_at, body_form, body_portion, cut, first_row, first_start, found_volume, inside}
use Rattle.fv_survey.specs.Words.{inside_as, inside_first, is_leaf, is_searched, is_too_deep, kind_at, lost_inside, next_at, none, only}
use Rattle.fv_survey.specs.Words.{parts_by, piece_by, piece_inside, piece_said, place_findings, plain_opening, row_as, row_of, searched}
use Rattle.fv_survey.specs.Words.{section_findings, section_opening, volume_end, volume_inside, volume_said, with_if}
use Rattle.fv_survey.specs.inner.Pieces.{IsPiece}
use Rattle.fv_survey.specs.inner.Chains.{Chain}
use Rattle.fv_survey.proofs.ChainLaws.{chain_put, chain_parts, chain_lost, chain_file, chain_section}
use Rattle.fv_survey.proofs.PortionLaws.{length-cut}
use Rattle.fv_survey.proofs.ReadingLaws.{parted}
use Rattle.fv_survey.proofs.RuleLaws.{volume_end_lies, parts_lie, piece_lies, start_within, start_long, section_lies}

-- the portions that a step puts back for the bytes after the first n begin where the first n bytes end
abbrev Onwards : PortionForm → ℕ → (List PortionForm → List PortionForm) → Type 0
Onwards p n after =
    (ps : List PortionForm) (end : ℕ) → Chain p.nest.depth (p.at + length p.bytes) end ps → Chain p.nest.depth (p.at + n) end (after ps)

-- the row lies at the start of the portion; `inside` are the portions in the row, and `after` the portions after it
record Stands (p : PortionForm) (row : Row) (inside : List PortionForm) (after : List PortionForm → List PortionForm) : Type 0 where
  depth : row.depth ≡ p.nest.depth
  offset : row.offset ≡ p.at
  some : 0 < row.length
  leaf : is_leaf row.kind ≡ true → inside ≡ []
  node : is_leaf row.kind ≡ false → Chain (p.nest.depth + 1) p.at (p.at + row.length) inside
  onwards : Onwards p row.length after

leaf_stands : (p : PortionForm) (opening : Opening) (n : ℕ) (after : List PortionForm → List PortionForm) → is_leaf opening.kind ≡ true
    → 0 < n → Onwards p n after → Stands p (row_of opening n p) [] after
leaf_stands p opening n after e some onwards = record {
  depth = refl;
  offset = refl;
  some = some;
  leaf = λ _. refl;
  node = λ k. let bad : true ≡ false = sym e ∙ k in cc;
  onwards = onwards;
}

node_stands : (p : PortionForm) (opening : Opening) (n : ℕ) (inside : List PortionForm) (after : List PortionForm → List PortionForm)
    → is_leaf opening.kind ≡ false → 0 < n → Chain (p.nest.depth + 1) p.at (p.at + n) inside → Onwards p n after
    → Stands p (row_of opening n p) inside after
node_stands p opening n inside after e some chain onwards = record {
  depth = refl;
  offset = refl;
  some = some;
  leaf = λ k. let bad : true ≡ false = sym k ∙ e in cc;
  node = λ _. chain;
  onwards = onwards;
}

-- nothing follows all bytes of the portion
onwards_none : (p : PortionForm) → Onwards p (length p.bytes) (λ ps. ps)
onwards_none p ps end chain = chain

-- the bytes of the portion after its first n bytes
onwards_rest : (reading : Reading) (n : ℕ) (p : PortionForm) → n ≤ length p.bytes
    → Onwards p n (λ ps. ahead (cut reading p.nest n (length p.bytes) p) ps)
onwards_rest reading n p l ps end chain = chain_put reading p.nest n (length p.bytes) p ps _ end refl l (omega arith) chain

pub searched_leaf : (kind : RowKind) → is_searched kind ≡ true → is_leaf kind ≡ true
searched_leaf kinds.Volume e = absurd (let bad : false ≡ true = e in cc)
searched_leaf kinds.File e = absurd (let bad : false ≡ true = e in cc)
searched_leaf kinds.Section e = absurd (let bad : false ≡ true = e in cc)
searched_leaf kinds.Lost e = absurd (let bad : false ≡ true = e in cc)
searched_leaf _ e = refl

-- the first row of a run, by the two tests on which it depends
abbrev run_row_by : Bool → Bool → RowKind → PortionForm → Row
run_row_by starts full kind p =
    if starts then row_of (plain_opening kind none) (first_start p.bytes) p
    else (if full then row_of (plain_opening kinds.Unread (only faults.Depth)) (length p.bytes) p
    else row_of (volume_said true (found_volume p).bytes) (volume_end p.bytes) p)

run_stands : (kind : RowKind) (p : PortionForm) → 0 < length p.bytes → is_searched kind ≡ true
    → Stands p (row_as (readings.Run kind) p) (inside_as (readings.Run kind) p []) (after_as (readings.Run kind) p)
run_stands kind p some seek = go (nat_lt 0 (first_start p.bytes)) (p.nest.found == 0) refl where
  go : (s d : Bool) → nat_lt 0 (first_start p.bytes) ≡ s
      → Stands p (run_row_by s d kind p) (if s || d then [] else volume_inside (found_volume p) [])
      (λ ps. ahead (cut (readings.Run kind) p.nest (run_row_by s d kind p).length (length p.bytes) p) ps)
  go true d e =
      leaf_stands p (plain_opening kind none) (first_start p.bytes) _ (searched_leaf kind seek) (grind (arith, nat_tests))
      (onwards_rest (readings.Run kind) (first_start p.bytes) p (start_within p.bytes))
  go false true e =
      leaf_stands p (plain_opening kinds.Unread (only faults.Depth)) (length p.bytes) _ refl some
      (onwards_rest (readings.Run kind) (length p.bytes) p (omega arith))
  go false false e =
      let long : 56 ≤ length p.bytes = start_long p.bytes some (grind (arith, nat_tests)) in
      let lies = volume_end_lies p.bytes long in
      let same : length (found_volume p).bytes ≡ volume_end p.bytes =
      length-cut readings.Volume (searched p.nest) 0 (volume_end p.bytes) p (omega arith) lies.1 ∙ omega arith in
      node_stands p (volume_said true (found_volume p).bytes) (volume_end p.bytes) _ _ refl (omega (arith, lies.0))
      (chain_parts (inside (searched p.nest)) (parts_by (found_volume p).bytes) (found_volume p) p.at (p.at + volume_end p.bytes)
      (parts_lie (found_volume p).bytes (omega (arith, same, lies.0))) (omega arith) (omega (arith, same)))
      (onwards_rest (readings.Run kind) (volume_end p.bytes) p lies.1)

-- the first piece of some cells
piece_stands : (layout : Layout) (polarity : Polarity) (sort : Sort) (piece : Piece) (p : PortionForm) → IsPiece (length p.bytes) piece
    → Stands p (row_of (piece_said sort piece) piece.span p) (piece_inside polarity sort piece p [])
    (λ ps. ahead (cut (readings.Cells layout) p.nest piece.span (length p.bytes) p) ps)
piece_stands layout polarity sort piece p lies = go sort where
  onwards : Onwards p piece.span (λ ps. ahead (cut (readings.Cells layout) p.nest piece.span (length p.bytes) p) ps)
  onwards = onwards_rest (readings.Cells layout) piece.span p lies.within

  go : (sort : Sort) → Stands p (row_of (piece_said sort piece) piece.span p) (piece_inside polarity sort piece p [])
      (λ ps. ahead (cut (readings.Cells layout) p.nest piece.span (length p.bytes) p) ps)
  go sorts.Free = leaf_stands p (piece_said sorts.Free piece) piece.span _ refl lies.some onwards
  go sorts.Stub = leaf_stands p (piece_said sorts.Stub piece) piece.span _ refl lies.some onwards
  go sorts.Lost = node_stands p (piece_said sorts.Lost piece) piece.span _ _ refl lies.some (chain_lost piece.span p lies.within) onwards
  go sorts.File = node_stands p (piece_said sorts.File piece) piece.span _ _ refl lies.some (chain_file polarity piece p lies) onwards
  go sorts.Pad = node_stands p (piece_said sorts.Pad piece) piece.span _ _ refl lies.some (chain_file polarity piece p lies) onwards
  go sorts.Dead = node_stands p (piece_said sorts.Dead piece) piece.span _ _ refl lies.some (chain_file polarity piece p lies) onwards

-- the first of some sections
abbrev section_said : Findings → PortionForm → Opening
section_said odd p =
    section_opening (kind_at p.bytes) (with_if (is_too_deep p.nest (body_form (kind_at p.bytes) (body_at p.bytes))) faults.Depth odd)

section_stands : (odd : Findings) (p : PortionForm) → 0 < length p.bytes
    → Stands p (row_as (readings.Sections odd) p) (inside_as (readings.Sections odd) p []) (after_as (readings.Sections odd) p)
section_stands odd p some = go (begins_section p.bytes) refl where
  go : (v : Bool) → begins_section p.bytes ≡ v
      → Stands p (if v then row_of (section_said odd p) (section_size_at p.bytes) p
      else row_of (plain_opening kinds.Lost (section_findings p.bytes)) (length p.bytes) p)
      (if v then ahead (cut (readings.Leaf kinds.SectionHeader none) (inside p.nest) 0 (section_header_len_at p.bytes) p)
      (ahead (body_portion (inside p.nest) (body_form (kind_at p.bytes) (body_at p.bytes)) p) [])
      else lost_inside (length p.bytes) p [])
      (λ ps. if v then ahead (cut (readings.Leaf kinds.Filler none) p.nest (section_size_at p.bytes) (next_at p.bytes) p)
      (ahead (cut (readings.Sections (place_findings (next_at p.bytes) (length p.bytes))) p.nest (next_at p.bytes) (length p.bytes) p) ps)
      else ps)
  go true e =
      let lies = section_lies p.bytes e in
      node_stands p (section_said odd p) (section_size_at p.bytes) _ _ refl (omega (arith, lies.header, lies.size))
      (chain_section (body_form (kind_at p.bytes) (body_at p.bytes)) p lies)
      (λ ps end chain.
      chain_put (readings.Leaf kinds.Filler none) p.nest (section_size_at p.bytes) (next_at p.bytes) p _ _ end refl lies.next lies.within
      (onwards_rest (readings.Sections (place_findings (next_at p.bytes) (length p.bytes))) (next_at p.bytes) p lies.within ps end chain))
  go false e =
      node_stands p (plain_opening kinds.Lost (section_findings p.bytes)) (length p.bytes) _ _ refl some
      (chain_lost (length p.bytes) p (omega arith)) (onwards_none p)

-- the first row of a portion that is read so
stands_as : (reading : Reading) (p : PortionForm) → 0 < length p.bytes → FitsAs reading p.nest (length p.bytes)
    → Stands p (row_as reading p) (inside_as reading p []) (after_as reading p)
stands_as (readings.Leaf kind findings) p some fit =
    leaf_stands p (plain_opening kind findings) (length p.bytes) _ fit some (onwards_none p)
stands_as (readings.Run kind) p some fit = run_stands kind p some fit.0
stands_as (readings.Lost findings) p some fit =
    node_stands p (plain_opening kinds.Lost findings) (length p.bytes) _ _ refl some (chain_lost (length p.bytes) p (omega arith))
    (onwards_none p)
stands_as readings.Volume p some fit =
    node_stands p (volume_said false p.bytes) (length p.bytes) _ _ refl some
    (chain_parts (inside p.nest) (parts_by p.bytes) p p.at (p.at + length p.bytes) (parts_lie p.bytes fit.0) refl refl) (onwards_none p)
stands_as (readings.Cells layout) p some fit =
    piece_stands layout layout.polarity (piece_by layout p.bytes).sort (piece_by layout p.bytes) p (piece_lies layout p.bytes some fit.0)
stands_as (readings.Sections odd) p some fit = section_stands odd p some

stands : (p : PortionForm) → Fits p → Stands p (first_row p) (inside_first p []) (after_first p)
stands p fit = stands_as p.reading p fit.0 fit.2

reads_bare : (f : Forest) → Reads f [] → f ≡ Bare
reads_bare Bare reads = refl
reads_bare (Tree row below after) reads = absurd reads

-- the trees of the forest lie one after another
pub reads_nest : (f : Forest) (ps : List PortionForm) (depth from to : ℕ) → Reads f ps → AllByRecursion Fits ps → Chain depth from to ps
    → Nest depth from to f
reads_nest Bare ps depth from to reads fits chain = subst (Chain depth from to) reads chain
reads_nest (Tree row below after) [] depth from to reads fits chain = absurd reads
reads_nest (Tree row below after) (p ∷ ps) depth from to reads fits chain =
    let s = stands p fits.0 in
    let part = parted p ps fits in
    let same : row ≡ first_row p = reads.0 in
    let deep : p.nest.depth ≡ depth = chain.0 in
    let start : p.at ≡ from = chain.1 in
    let rest : Chain p.nest.depth (p.at + length p.bytes) to ps =
    subst (λ d. Chain d (p.at + length p.bytes) to ps) (sym deep)
    (subst (λ k. Chain depth (k + length p.bytes) to ps) (sym start) chain.2) in
    let more : Chain depth (from + row.length) to (after_first p ps) =
    subst (λ d. Chain d (from + row.length) to (after_first p ps)) deep
    (subst (λ k. Chain p.nest.depth k to (after_first p ps)) (omega (arith, start, ap (λ r. r.length) same)) (s.onwards ps to rest)) in (
      ap (λ r. r.depth) same ∙ s.depth ∙ deep,
      ap (λ r. r.offset) same ∙ s.offset ∙ start,
      subst (λ r. 0 < r.length) (sym same) s.some,
      λ e. reads_bare below (subst (Reads below) (s.leaf (ap (λ r. is_leaf r.kind) (sym same) ∙ e)) reads.1),
      λ e. reads_nest below (inside_first p []) (depth + 1) from (from + row.length) reads.1 part.inside
          (subst (λ d. Chain (d + 1) from (from + row.length) (inside_first p [])) deep
          (subst (λ k. Chain (p.nest.depth + 1) k (k + row.length) (inside_first p [])) start
          (subst (λ r. Chain (p.nest.depth + 1) p.at (p.at + r.length) (inside_first p [])) (sym same)
          (s.node (ap (λ r. is_leaf r.kind) (sym same) ∙ e))))),
      reads_nest after (after_first p ps) depth (from + row.length) to reads.2 part.after more,
    )
