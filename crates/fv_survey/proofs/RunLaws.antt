-- What a step over bytes without a structure gives and puts back, by where the first volume begins.
use Rattle.std.proofs.Common.{◌≡◌, ◌≤◌, ◌<◌, ℕ, ◌-◌, ◌==◌, List, true, false, nat_lt, length, refl, sym, ap, ◌∙◌, arith, add-zero}
use Rattle.fv_base.proofs.Laws.{nat_tests}
use Rattle.fv_survey.specs.declared.portion.Reading.TheVariants as readings
use Rattle.fv_survey.specs.declared.portion.Opening.{Opening}
use Rattle.fv_survey.specs.declared.row.Row.{Row}
use Rattle.fv_survey.specs.declared.row.RowKind.{RowKind}
use Rattle.fv_survey.specs.Words.{PortionForm, ahead, cut, first_start, found_volume, row_of, run_after, run_inside, run_row, searched}
use Rattle.fv_survey.specs.Words.{volume_end, volume_inside, volume_said}
use Rattle.fv_survey.proofs.PortionLaws.{ahead_none, length-cut}
use Rattle.fv_survey.proofs.RuleLaws.{volume_end_lies}

at_start : (b : List ℕ) → first_start b ≡ 0 → nat_lt 0 (first_start b) ≡ false
at_start b e = grind (arith, nat_tests, e)

is_zero : (n : ℕ) → n ≡ 0 → (n == 0) ≡ true
is_zero n e = grind (arith, nat_tests, e)

may_nest : (n : ℕ) → 0 < n → (n == 0) ≡ false
may_nest n l = grind (arith, nat_tests, l)

pub deep_inside : (kind : RowKind) (p : PortionForm) (ps : List PortionForm) → nat_lt 0 (first_start p.bytes) ≡ false → (p.nest.found == 0) ≡ true
    → run_inside p (run_after kind p ps) ≡ ahead (cut (readings.Run kind) p.nest (length p.bytes) (length p.bytes) p) ps
deep_inside kind p ps e d = rw (e, d) refl

-- volumes nest too deep: nothing is put back
pub run_deep : (kind : RowKind) (p : PortionForm) (ps : List PortionForm) → first_start p.bytes ≡ 0 → p.nest.found ≡ 0
    → run_inside p (run_after kind p ps) ≡ ps
run_deep kind p ps e d =
    deep_inside kind p ps (at_start p.bytes e) (is_zero p.nest.found d)
    ∙ ahead_none (cut (readings.Run kind) p.nest (length p.bytes) (length p.bytes) p) ps
    (is_zero _ (length-cut (readings.Run kind) p.nest (length p.bytes) (length p.bytes) p (omega arith) (omega arith) ∙ (omega arith)))

pub found_inside : (kind : RowKind) (p : PortionForm) (ps : List PortionForm) → nat_lt 0 (first_start p.bytes) ≡ false → (p.nest.found == 0) ≡ false
    → run_inside p (run_after kind p ps)
    ≡ volume_inside (found_volume p) (ahead (cut (readings.Run kind) p.nest (volume_end p.bytes) (length p.bytes) p) ps)
found_inside kind p ps e d = rw (e, d) refl

-- a volume is found: the portions in it, and the bytes after it
pub run_found : (kind : RowKind) (p : PortionForm) (ps : List PortionForm) → first_start p.bytes ≡ 0 → 0 < p.nest.found
    → run_inside p (run_after kind p ps)
    ≡ volume_inside (found_volume p) (ahead (cut (readings.Run kind) p.nest (volume_end p.bytes) (length p.bytes) p) ps)
run_found kind p ps e d = found_inside kind p ps (at_start p.bytes e) (may_nest p.nest.found d)

found_said : (kind : RowKind) (p : PortionForm) → nat_lt 0 (first_start p.bytes) ≡ false → (p.nest.found == 0) ≡ false
    → run_row kind p ≡ row_of (volume_said true (found_volume p).bytes) (volume_end p.bytes) p
found_said kind p e d = rw (e, d) refl

-- a row with this place
abbrev row_by : Opening → ℕ → ℕ → ℕ → Row
row_by o n depth at = record {
  kind = o.kind;
  depth = depth;
  code = o.code;
  found = o.found;
  findings = o.findings;
  offset = at;
  length = n;
  name = o.name;
}

minus_none : (n : ℕ) → n - 0 ≡ n
minus_none n = omega arith

-- a row says the same at the start of a portion and of bytes that are cut from this start
row_moved : (o : Opening) (n m : ℕ) (p : PortionForm) → row_of o n (cut readings.Volume (searched p.nest) 0 m p) ≡ row_of o n p
row_moved o n m p = ap (row_by o n p.nest.depth) (add-zero p.at)

-- and its row
pub row_found : (kind : RowKind) (p q : PortionForm) → q ≡ found_volume p → first_start p.bytes ≡ 0 → 0 < p.nest.found → 56 ≤ length p.bytes
    → row_of (volume_said true q.bytes) (length q.bytes) q ≡ run_row kind p
row_found kind p q is e d l =
    let lies = volume_end_lies p.bytes l in
    let long : length (found_volume p).bytes ≡ volume_end p.bytes =
    length-cut readings.Volume (searched p.nest) 0 (volume_end p.bytes) p (omega arith) lies.1 ∙ minus_none (volume_end p.bytes) in
    let o : Opening = volume_said true (found_volume p).bytes in
    ap (λ (x : PortionForm). row_of (volume_said true x.bytes) (length x.bytes) x) is
    ∙ (ap (λ (n : ℕ). row_of o n (found_volume p)) long ∙ (row_moved o (volume_end p.bytes) (volume_end p.bytes) p
    ∙ sym (found_said kind p (at_start p.bytes e) (may_nest p.nest.found d))))
