-- The lines of rows that have been put (`put_one_more`, `front`).
use Rattle.std.proofs.Common.{◌≡◌, ◌++◌, ℕ, List, [], ◌∷◌, length, take, refl, sym, ap, ◌∙◌, append_assoc, append-nil, subst, arith, Result, Ok, Err}
use Rattle.std.specs.Prelude.{OnErr}
use Rattle.fv_text.proofs.Laws.{flat_next}
use Rattle.fv_base.specs.Words.{WalkLaws}
use Rattle.fv_base.proofs.Laws.{common_steps}
use Rattle.fv_survey.specs.declared.row.Row.{Row}
use Rattle.fv_survey_lines.specs.Words.{AccountFor, row_line, rows_text}
use Rattle.fv_survey_lines.specs.inner.Totalled.{ArePut, HasRoom, totals_of, totals_with}
use Rattle.fv_survey_lines.specs.declared.totals.Totals.{Totals}
use Rattle.fv_survey_lines.proofs.TotalLemmas.{has_room, totals_next}

-- nothing has been put
pub put_none : {S : Type 0} {takes : S → List ℕ → S → Type 0} → WalkLaws takes → (whole : List Row) (s : S) (t : Totals)
    → t ≡ totals_of [] → ArePut takes whole s s whole t
put_none laws whole s t totals = record { rows = []; all = refl; put = laws.none s; totals = totals }

-- one more row has been put and added up
pub put_one_more : {S : Type 0} {takes : S → List ℕ → S → Type 0} {whole : List Row} {s u v : S} {left : List Row} {t : Totals}
    → WalkLaws takes → (row : Row) (new : List Row) (more : Totals) → left ≡ row ∷ new → ArePut takes whole s u left t
    → takes u (row_line row) v → more ≡ totals_with t row → ArePut takes whole s v new more
put_one_more {S = S} {takes = takes} {whole = whole} {s = s} {u = u} {v = v} laws row new more first w here added = record {
  rows = w.rows ++ row ∷ [];
  all = append_assoc w.rows (row ∷ []) new ∙ (ap (λ l. w.rows ++ l) (sym first) ∙ w.all);
  put = subst (λ text. takes s text v) (sym (flat_next row_line w.rows row)) (laws.joined w.put here);
  totals = added ∙ (ap (λ t. totals_with t row) w.totals ∙ sym (totals_next w.rows row));
}

-- no number overflows with the next row
pub room_left : {S : Type 0} {takes : S → List ℕ → S → Type 0} {whole : List Row} {s u : S} {left : List Row} {t : Totals}
    → (n : ℕ) (row : Row) (new : List Row) → left ≡ row ∷ new → AccountFor n whole → ArePut takes whole s u left t → HasRoom t row
room_left {whole = whole} n row new first account w =
    rw w.totals (has_room n whole w.rows new row account (ap (λ l. w.rows ++ l) (sym first) ∙ w.all))

-- the lines that have been put are the lines of the first rows
pub front : {S : Type 0} {takes : S → List ℕ → S → Type 0} {whole : List Row} {s u : S} {left : List Row} {t : Totals}
    → ArePut takes whole s u left t → (n : ℕ) × takes s (rows_text (take n whole)) u
front {takes = takes} {whole = whole} {s = s} {u = u} {left = left} w =
    let first : take (length w.rows) whole ≡ w.rows = grind (arith, common_steps, w.all) in
    (length w.rows, subst (λ rows. takes s (rows_text rows) u) (sym first) w.put)

-- all rows have been put
pub put_all : {S : Type 0} {takes : S → List ℕ → S → Type 0} {whole : List Row} {s u : S} {left : List Row} {t : Totals}
    → ArePut takes whole s u left t → left ≡ [] → takes s (rows_text whole) u × (t ≡ totals_of whole)
put_all {takes = takes} {whole = whole} {s = s} {u = u} w none =
    let all : w.rows ≡ whole = sym (append-nil w.rows) ∙ (ap (λ l. w.rows ++ l) (sym none) ∙ w.all) in
    (subst (λ rows. takes s (rows_text rows) u) all w.put, w.totals ∙ ap totals_of all)

-- a fact is also true after an error
pub on_err : {A E P : Type 0} → (r : Result A E) → P → OnErr r P
on_err (Ok x) p = tt
on_err (Err f) p = p
