-- Definitions for the code that puts the lines of `list --open`.
use Rattle.std.specs.Prelude.{ℕ, ◌≤◌, ◌+◌, ◌*◌, List}
use Rattle.std.specs.List.{AllByRecursion}
use Rattle.fv_rows.specs.Words.{TreeRow}
use Rattle.fv_opened.specs.OpenedTexts.{OpenedRows}
use Rattle.fv_budget.specs.declared.budget.Budget.{Budget}
use Rattle.fv_opened.specs.declared.opened_list.Level.{Level}

-- the rows are at depths that a walk has room for
abbrev pub AreShallow : List TreeRow → Type 0
AreShallow rows = AllByRecursion (λ r. r.depth ≤ 26) rows

-- the depth of a level leaves room for the rows in the packed sections that may nest in it
abbrev pub HasRoom : Level → Type 0
HasRoom l = l.depth + 27 * l.deeper ≤ 1000

-- the sink took the text of these rows
abbrev pub PutsOpenedRows : {S : Type 0} (takes : S → List ℕ → S → Type 0) → Level → Budget → List TreeRow → S → S → Budget → Type 0
PutsOpenedRows takes l s rows from to t = (text : List ℕ) × OpenedRows l.deeper l.depth s rows text t × takes from text to
