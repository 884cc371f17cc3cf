use Rattle.std.proofs.Common.{◌≡◌, ◌≤◌, ℕ, zero, suc, List, [], ◌∷◌, length, Option, Some, None, arith, option_map, refl, rules, sym}
use Rattle.std.specs.Prelude.{slice_get}
use Rattle.std.proofs.lemmas.Option.{slice_get_within}
use Rattle.fv_base.proofs.Laws.{YieldsList-from_first, nth_from_yields_List, IfErr-weaker, IfOk-weaker, or_more}
use Rattle.fv_rows.specs.Words.{TreeRow, row_of}
use Rattle.fv_rows.specs.declared.tree_walk.Row.{Row}
use Rattle.fv_c.specs.ExtractedParts.{IsRowImage}
use Rattle.fv_c.proofs.extract.put_row.Goals.{After-nth}
use Rattle.fv_c.proofs.extract.put_row.Goals as goal

-- the walk finds the row with this number, if there is one
found : (c : After-nth) (o : Option Row) → c.nth.result ≡ o → option_map row_of o ≡ slice_get c.args.rows c.args.row
found c o is =
    rw is at (nth_from_yields_List c.nth.result c.nth.new.self c.args.row c.nth.ensures.ran
    (YieldsList-from_first row_of (λ left. left) c.args.rows refl))

-- if there is no row n, there are at most n rows
no_row : (rows : List TreeRow) (n : ℕ) → slice_get rows n ≡ None → length rows ≤ n
no_row [] n e = omega arith
no_row (r ∷ rows) zero e = cc
no_row (r ∷ rows) (suc n) e = omega (arith, no_row rows n e)

pub returns-in-Some-clause-ok : goal.returns-in-Some-clause-ok
returns-in-Some-clause-ok c =
    let at = sym (found (goal.at.returns-in-Some-clause-ok c).After-nth (Some c.in-Some.found) c.in-Some.is) in
    IfOk-weaker c.put_part.result _ _ (λ r (bytes, image, long, written).
    let is : IsRowImage c.args.row c.args.rows bytes = (row_of c.in-Some.found, at, image) in
    search rules) c.put_part.ensures.ok

pub returns-in-Some-clause-err : goal.returns-in-Some-clause-err
returns-in-Some-clause-err c =
    let at = sym (found (goal.at.returns-in-Some-clause-err c).After-nth (Some c.in-Some.found) c.in-Some.is) in
    IfErr-weaker c.put_part.result _ _ (λ f why. or_more why (λ unfit. (row_of c.in-Some.found, at, unfit))) c.put_part.ensures.err

pub returns-in-Some-clause-some : goal.returns-in-Some-clause-some
returns-in-Some-clause-some c =
    let at = sym (found (goal.at.returns-in-Some-clause-some c).After-nth (Some c.in-Some.found) c.in-Some.is) in
    IfErr-weaker c.put_part.result _ _ (λ f why. slice_get_within c.args.rows c.args.row _ at) c.put_part.ensures.err

pub returns-in-None-clause-ok : goal.returns-in-None-clause-ok
returns-in-None-clause-ok c =
    let none = no_row c.args.rows c.args.row (sym (found (goal.at.returns-in-None-clause-ok c).After-nth None c.in-None.is)) in
    search rules
