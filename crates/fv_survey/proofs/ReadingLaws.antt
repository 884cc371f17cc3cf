-- The rows of portions. The steps:
-- 1. From as many rows on as portions give at most, more rows to read change nothing (`rows_enough`). So the rows of
--    some portions are the first row of the first portion and then the rows of what a step puts back (`rows_step`),
--    and the rows of joined lists of portions are the rows of the first list and then of the second (`rows_append`).
-- 2. Portions give no more rows than `most_rows` says (`rows_few`).
-- 3. Portions that fit have a forest (`has_forest`).
use Rattle.std.proofs.Common.{◌≡◌, ◌≤◌, ℕ, zero, suc, ◌+◌, List, [], ◌∷◌, ◌++◌, length, refl, sym, ap, ◌∙◌, subst, arith, append_assoc}
use Rattle.std.specs.List.{AllByRecursion}
use Rattle.fv_survey.specs.Words.{Bare, Fits, Forest, PortionForm, Reads, Tree, after_first, first_row, inside_first, most_rows}
use Rattle.fv_survey.specs.Words.{rows_left, rows_of, rows_up_to}
use Rattle.fv_survey.proofs.FittingLaws.{step_keeps}
use Rattle.fv_survey.proofs.PortionLaws.{inside_before, after_before}

-- what a step puts back
abbrev next : PortionForm → List PortionForm → List PortionForm
next p ps = inside_first p (after_first p ps)

-- two numbers of rows, both at least as many as the portions give
same_rows : (m n : ℕ) (ps : List PortionForm) → AllByRecursion Fits ps → most_rows ps ≤ m → most_rows ps ≤ n
    → rows_up_to m ps ≡ rows_up_to n ps
same_rows zero zero ps fits l k = refl
same_rows zero (suc n) [] fits l k = refl
same_rows (suc m) zero [] fits l k = refl
same_rows (suc m) (suc n) [] fits l k = refl
same_rows zero (suc n) (p ∷ ps) fits l k = absurd (omega (arith, l, (step_keeps p ps fits.0 fits.1).1))
same_rows (suc m) zero (p ∷ ps) fits l k = absurd (omega (arith, k, (step_keeps p ps fits.0 fits.1).1))
same_rows (suc m) (suc n) (p ∷ ps) fits l k =
    let keeps = step_keeps p ps fits.0 fits.1 in
    ap (λ l. first_row p ∷ l) (same_rows m n (next p ps) keeps.0 (omega (arith, l, keeps.1)) (omega (arith, k, keeps.1)))

pub rows_enough : (n : ℕ) (ps : List PortionForm) → AllByRecursion Fits ps → most_rows ps ≤ n → rows_up_to n ps ≡ rows_left ps
rows_enough n ps fits l = same_rows n (most_rows ps) ps fits l (omega arith)

-- the rows of some portions, by a step
pub rows_step : (p : PortionForm) (ps : List PortionForm) → AllByRecursion Fits (p ∷ ps)
    → rows_left (p ∷ ps) ≡ first_row p ∷ rows_left (inside_first p (after_first p ps))
rows_step p ps fits = go (most_rows (p ∷ ps)) (step_keeps p ps fits.0 fits.1).1 where
  go : (n : ℕ) → 1 + most_rows (next p ps) ≤ n → rows_up_to n (p ∷ ps) ≡ first_row p ∷ rows_left (next p ps)
  go zero l = absurd (omega (arith, l))
  go (suc n) l = ap (λ rows. first_row p ∷ rows) (rows_enough n (next p ps) (step_keeps p ps fits.0 fits.1).0 (omega (arith, l)))

pub rows_none : rows_left [] ≡ []
rows_none = refl

-- the most rows of joined lists of portions, and when both lists fit
most_append : (ps qs : List PortionForm) → most_rows (ps ++ qs) ≡ most_rows ps + most_rows qs
most_append [] qs = omega arith
most_append (p ∷ ps) qs = omega (arith, most_append ps qs)

pub fit_parts : (ps qs : List PortionForm) → AllByRecursion Fits (ps ++ qs) → AllByRecursion Fits ps × AllByRecursion Fits qs
fit_parts [] qs fits = (tt, fits)
fit_parts (p ∷ ps) qs fits = let both = fit_parts ps qs fits.1 in ((fits.0, both.0), both.1)

pub fit_both : (ps qs : List PortionForm) → AllByRecursion Fits ps → AllByRecursion Fits qs → AllByRecursion Fits (ps ++ qs)
fit_both [] qs fits more = more
fit_both (p ∷ ps) qs fits more = (fits.0, fit_both ps qs fits.1 more)

-- what a step puts back ahead of other portions
next_append : (p : PortionForm) (ps qs : List PortionForm) → next p (ps ++ qs) ≡ next p ps ++ qs
next_append p ps qs =
    let after : after_first p (ps ++ qs) ≡ after_first p ps ++ qs =
    after_before p (ps ++ qs) ∙ sym (append_assoc (after_first p []) ps qs) ∙ ap (λ l. l ++ qs) (sym (after_before p ps)) in
    ap (inside_first p) after ∙ inside_before p (after_first p ps ++ qs)
    ∙ sym (append_assoc (inside_first p []) (after_first p ps) qs) ∙ ap (λ l. l ++ qs) (sym (inside_before p (after_first p ps)))

rows_joined : (n : ℕ) (ps qs : List PortionForm) → AllByRecursion Fits ps → AllByRecursion Fits qs → most_rows ps ≤ n
    → rows_left (ps ++ qs) ≡ rows_left ps ++ rows_left qs
rows_joined n [] qs fits more l = refl
rows_joined zero (p ∷ ps) qs fits more l = absurd (omega (arith, l, (step_keeps p ps fits.0 fits.1).1))
rows_joined (suc n) (p ∷ ps) qs fits more l =
    let keeps = step_keeps p ps fits.0 fits.1 in
    rows_step p (ps ++ qs) (fits.0, fit_both ps qs fits.1 more)
    ∙ ap (λ l. first_row p ∷ l)
    (ap rows_left (next_append p ps qs) ∙ rows_joined n (next p ps) qs keeps.0 more (omega (arith, l, keeps.1)))
    ∙ ap (λ l. l ++ rows_left qs) (sym (rows_step p ps fits))

pub rows_append : (ps qs : List PortionForm) → AllByRecursion Fits ps → AllByRecursion Fits qs
    → rows_left (ps ++ qs) ≡ rows_left ps ++ rows_left qs
rows_append ps qs fits more = rows_joined (most_rows ps) ps qs fits more (omega arith)

-- there are not more rows than portions give at most
up_to_few : (n : ℕ) (ps : List PortionForm) → length (rows_up_to n ps) ≤ n
up_to_few zero ps = omega arith
up_to_few (suc n) [] = omega arith
up_to_few (suc n) (p ∷ ps) = omega (arith, up_to_few n (next p ps))

pub rows_few : (ps : List PortionForm) → length (rows_left ps) ≤ most_rows ps
rows_few ps = up_to_few (most_rows ps) ps

-- what a step puts back fits in two parts, in the first row and after it, which give fewer rows
pub record Parted (p : PortionForm) (ps : List PortionForm) : Type 0 where
  pub inside : AllByRecursion Fits (inside_first p [])
  pub after : AllByRecursion Fits (after_first p ps)
  pub fewer : 1 + (most_rows (inside_first p []) + most_rows (after_first p ps)) ≤ most_rows (p ∷ ps)
  pub rows : rows_left (p ∷ ps) ≡ first_row p ∷ (rows_left (inside_first p []) ++ rows_left (after_first p ps))

pub parted : (p : PortionForm) (ps : List PortionForm) → AllByRecursion Fits (p ∷ ps) → Parted p ps
parted p ps fits =
    let keeps = step_keeps p ps fits.0 fits.1 in
    let split = inside_before p (after_first p ps) in
    let both = fit_parts (inside_first p []) (after_first p ps) (subst (AllByRecursion Fits) split keeps.0) in
    record {
      inside = both.0;
      after = both.1;
      fewer = omega (arith, keeps.1, ap most_rows split, most_append (inside_first p []) (after_first p ps));
      rows = rows_step p ps fits
          ∙ ap (λ l. first_row p ∷ l) (ap rows_left split ∙ rows_append (inside_first p []) (after_first p ps) both.0 both.1);
    }

-- some portions have a forest
pub record Grown (ps : List PortionForm) : Type 0 where
  pub forest : Forest
  pub reads : Reads forest ps
  pub rows : rows_left ps ≡ rows_of forest

grown : (n : ℕ) (ps : List PortionForm) → AllByRecursion Fits ps → most_rows ps ≤ n → Grown ps
grown n [] fits l = record { forest = Bare; reads = refl; rows = refl }
grown zero (p ∷ ps) fits l = absurd (omega (arith, l, (parted p ps fits).fewer))
grown (suc n) (p ∷ ps) fits l =
    let part = parted p ps fits in
    let below = grown n (inside_first p []) part.inside (omega (arith, l, part.fewer)) in
    let after = grown n (after_first p ps) part.after (omega (arith, l, part.fewer)) in
    record {
      forest = Tree (first_row p) below.forest after.forest;
      reads = (refl, below.reads, after.reads);
      rows = part.rows ∙ ap (λ l. first_row p ∷ l) (ap (λ l. l ++ rows_left (after_first p ps)) below.rows
          ∙ ap (λ l. rows_of below.forest ++ l) after.rows);
    }

pub has_forest : (ps : List PortionForm) → AllByRecursion Fits ps → Grown ps
has_forest ps fits = grown (most_rows ps) ps fits (omega arith)
