use Rattle.std.proofs.Common.{◌≡◌, ◌∷◌, List, ap, sym, ◌∙◌, subst}
use Rattle.std.specs.List.{AllByRecursion}
use Rattle.fv_survey.specs.declared.row.Row.{Row}
use Rattle.fv_survey.specs.Words.{Fits, PortionForm, after_first, inside_first, portion_form, rows_left, stack}
use Rattle.fv_survey.proofs.FittingLaws.{step_keeps}
use Rattle.fv_survey.proofs.PortionLaws.{stack_push}
use Rattle.fv_survey.proofs.ReadingLaws.{rows_step}
use Rattle.fv_survey.proofs.walk.SurveyWalk.next_row.Goals as goal

pub step-requires : goal.step-requires
step-requires c =
    let all : AllByRecursion Fits (portion_form c.in-Some.portion ∷ stack c.pop.new.self.items) =
    subst (AllByRecursion Fits) (ap stack c.in-Some.ensures.items ∙ stack_push c.pop.new.self.items c.in-Some.portion) c.self.invariant in
    record { fits = all.0 }

pub invariant_of-self-in-Ok : goal.invariant_of-self-in-Ok
invariant_of-self-in-Ok c =
    let p : PortionForm = portion_form c.in-Some.portion in
    let ps : List PortionForm = stack c.pop.new.self.items in
    let all : AllByRecursion Fits (p ∷ ps) =
    subst (AllByRecursion Fits) (ap stack c.in-Some.ensures.items ∙ stack_push c.pop.new.self.items c.in-Some.portion) c.self.invariant in
    subst (AllByRecursion Fits) (sym c.in-Ok.ensures.inside) ((step_keeps p ps all.0 all.1).0)

pub returns-in-Ok-clause-some : goal.returns-in-Ok-clause-some
returns-in-Ok-clause-some c =
    let p : PortionForm = portion_form c.in-Some.portion in
    let ps : List PortionForm = stack c.pop.new.self.items in
    let was : stack c.self.inside.portions.items ≡ p ∷ ps =
    ap stack c.in-Some.ensures.items ∙ stack_push c.pop.new.self.items c.in-Some.portion in
    let all : AllByRecursion Fits (p ∷ ps) = subst (AllByRecursion Fits) was c.self.invariant in
    sym c.self.view_is ∙ (ap rows_left was ∙ (rows_step p ps all
    ∙ (ap (λ (r : Row). r ∷ rows_left (inside_first p (after_first p ps))) (sym c.in-Ok.ensures.row)
    ∙ ap (λ (s : List PortionForm). c.in-Ok.row ∷ rows_left s) (sym c.in-Ok.ensures.inside))))
