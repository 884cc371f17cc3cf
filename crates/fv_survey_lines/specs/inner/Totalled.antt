-- Definitions for the code that adds rows up.
use Rattle.std.specs.Prelude.{◌≡◌, ℕ, ◌+◌, ◌<◌, ◌^◌, ◌&&◌, nat_lt, if◌then◌else◌, List, ◌++◌, map, get_or, slice_set, codes, decimal}
use Rattle.std.specs.List.{count_by, flat_map}
use Rattle.fv_text.specs.Words.{line_feed}
use Rattle.fv_survey.specs.declared.row.Row.{Row}
use Rattle.fv_survey.specs.declared.row.RowKind.{RowKind}
use Rattle.fv_survey_lines.specs.SurveyTexts.{bytes_of_kind, has_other_findings, is_clean, is_marked_only, is_sound}
use Rattle.fv_survey_lines.specs.SurveyTexts.{leaf_kinds, leaf_number, rows_text, sum_text}
use Rattle.fv_survey_lines.specs.declared.totals.Totals.{Totals}

-- the number of bytes of each kind
abbrev pub sums_of : List Row → List ℕ
sums_of rows = map (λ kind. bytes_of_kind kind rows) leaf_kinds

-- the totals of some rows
abbrev pub totals_of : List Row → Totals
totals_of rows = record {
  sums = sums_of rows;
  findings = count_by (λ row. has_other_findings row.findings) rows;
  fixed = count_by (λ row. is_marked_only row.findings) rows;
  clean = is_clean rows;
}

-- the number of bytes of a kind, and 0 for rows that are not leaf rows
abbrev pub sum_in : List ℕ → RowKind → ℕ
sum_in sums kind = get_or sums (leaf_number kind) 0

-- the sums with n more bytes of the kind with the number j
abbrev pub sums_with : ℕ → ℕ → List ℕ → List ℕ
sums_with j n sums = if nat_lt j 17 then slice_set sums j (get_or sums j 0 + n) else sums

-- the totals with one more row
abbrev pub totals_with : Totals → Row → Totals
totals_with t row = record {
  sums = sums_with (leaf_number row.kind) row.length t.sums;
  findings = t.findings + (if has_other_findings row.findings then 1 else 0);
  fixed = t.fixed + (if is_marked_only row.findings then 1 else 0);
  clean = t.clean && is_sound row;
}

-- no number of the totals overflows with one more row
pub record HasRoom (t : Totals) (row : Row) : Type 0 where
  pub sum : leaf_number row.kind < 17 → sum_in t.sums row.kind + row.length < 2 ^ 64
  pub findings : t.findings + 1 < 2 ^ 64
  pub fixed : t.fixed + 1 < 2 ^ 64

-- the number of bytes of each kind that occurs
abbrev pub put_sums_text : List ℕ → List ℕ
put_sums_text sums = flat_map (λ kind. sum_text kind (sum_in sums kind)) leaf_kinds

-- the last line for n bytes
abbrev pub totals_text : ℕ → Totals → List ℕ
totals_text n t =
    codes "sums" ++ (put_sums_text t.sums ++ (codes " all " ++ (decimal n
    ++ (codes " findings " ++ (decimal t.findings ++ (codes " fixed " ++ (decimal t.fixed ++ line_feed)))))))

-- the first of some rows have been put and added up, and these rows are left
pub record ArePut {S : Type 0} (takes : S → List ℕ → S → Type 0) (whole : List Row) (from to : S) (left : List Row)
    (t : Totals) : Type 0 where
  pub rows : List Row
  pub all : rows ++ left ≡ whole
  pub put : takes from (rows_text rows) to
  pub totals : t ≡ totals_of rows
