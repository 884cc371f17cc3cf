-- The arguments of a name ask for one task, which flags may select.
use Rattle.std.proofs.Common.{◌≡◌, ℕ, if◌then◌else◌, Bool, true, false, List, Option, Some, None, arith, codes, refl, subst, sym, Global, String}
use Rattle.fv_base.proofs.Laws.{common_steps}
use Rattle.std.proofs.lemmas.Bool.{cond_both}
use Rattle.fv_plan.specs.declared.plan.Task.{Task}
use Rattle.fv_arguments.specs.Words.{HasInput, HasTexts, command_name, flag_in, list_app}
use Rattle.fv_arguments.specs.inner.CommandWords.{list_task}
use Rattle.fv_plan.specs.declared.plan.Command.TheVariants.{Single}
use Rattle.fv_plan.specs.declared.plan.Task.TheVariants.{List as Listing, ListSums, ListOpened}

-- the arguments with this name ask for a task over this input
abbrev IsAsked : List ℕ → List (List ℕ) → Option ℕ → Option (String Global) → Task → Type 0
IsAsked name rest at file task = (name ≡ command_name (Single task at file)) × HasTexts rest (Single task at file)

-- the arguments ask for one of two tasks, and a flag selects which
pub by_flag : (name : List ℕ) (rest : List (List ℕ)) (at : Option ℕ) (file : Option (String Global)) (given : Bool)
    (one other task : Task) → task ≡ (if given then one else other) → (given ≡ true → IsAsked name rest at file one)
    → (given ≡ false → IsAsked name rest at file other) → IsAsked name rest at file task
by_flag name rest at file given one other task is on off = grind (arith, common_steps, cond_both)

-- the arguments of `list` ask for the task that its two flags select
pub by_flags : (rest : List (List ℕ)) (at : Option ℕ) (file : Option (String Global)) (sums opened : Bool) (task : Task)
    → sums ≡ flag_in list_app (codes "sums") rest → opened ≡ flag_in list_app (codes "open") rest → HasInput list_app rest at file
    → list_task sums opened ≡ Some task → IsAsked (codes "list") rest at file task
by_flags rest at file sums opened task is-sums is-opened input is = go sums opened is-sums is-opened is
  where
    selected : (other : Task) → IsAsked (codes "list") rest at file other → Some other ≡ Some task → IsAsked (codes "list") rest at file task
    selected other asked same = let is : other ≡ task = cc in subst (λ t. IsAsked (codes "list") rest at file t) is asked

    go : (s o : Bool) → s ≡ flag_in list_app (codes "sums") rest → o ≡ flag_in list_app (codes "open") rest → list_task s o ≡ Some task
        → IsAsked (codes "list") rest at file task
    go false false s o same = selected Listing (refl, (sym s, sym o, input)) same
    go true false s o same = selected ListSums (refl, (sym s, sym o, input)) same
    go false true s o same = selected ListOpened (refl, (sym s, sym o, input)) same
    go true true s o same = cc

-- `list` has no task only if both flags are given
pub both_flags : (sums opened : Bool) → list_task sums opened ≡ None → (sums ≡ true) × (opened ≡ true)
both_flags true true is = (refl, refl)
both_flags false false is = cc
both_flags true false is = cc
both_flags false true is = cc
