use Rattle.std.proofs.Common.{◌≡◌, ◌+◌, ◌∷◌, [], List, length, ap, refl, sym, ◌∙◌, arith}
use Rattle.fv_levels.specs.Words.{SourceForm}
use Rattle.fv_same.specs.declared.walk.SourceWalk.{SourceWalk}
use Rattle.fv_same.specs.inner.Walks.{WalkForm, stack_items}
use Rattle.fv_same.proofs.WalkLemmas.{length_push, stack_over, stack_step}
use Rattle.fv_same.proofs.part_walk.PartWalk.step.Goals as goal

pub returns-in_default-2-clause-step : goal.returns-in_default-2-clause-step
returns-in_default-2-clause-step c =
    let sources : List SourceForm = c.self.inside.levels.now.sources in
    let ws : List SourceWalk = c.pop.new.self.items in
    let none : c.in-Some.walk.rows ≡ [] = (rw c.in_default-2.is at c.in_ok-row.ensures.none).0 in (
      sym (ap (λ (f : WalkForm). f.items) c.self.view_is) ∙ ap (stack_items sources) c.in-Some.ensures.items
          ∙ stack_over sources ws c.in-Some.walk none,
      sym (ap (λ (f : WalkForm). f.reading) c.self.view_is) ∙ ap length c.in-Some.ensures.items ∙ length_push ws c.in-Some.walk,
    )

pub returns-clause-step : goal.returns-clause-step
returns-clause-step c =
    let sources : List SourceForm = c.self.inside.levels.now.sources in
    let ws : List SourceWalk = c.pop.new.self.items in
    let some : c.in-Some.walk.rows ≡ c.in-Some-2.row ∷ c.next_row.new.self = rw c.in-Some-2.is at c.in_ok-row.ensures.some in
    let v : SourceWalk =
    record { reader = c.read_row.new.self; room = c.in-Some.walk.room; rows = c.next_row.new.self } in
    let done = stack_step sources ws c.put.new.walks.items c.in-Some.walk v c.in_ok-inner.inner c.in-Some-2.row _ _ some refl
    c.in_ok-part.ensures.after c.in_ok-part.ensures.part c.in_ok-part.ensures.contents c.in_ok-inner.ensures.items c.in_ok-put.ensures.put in
    let count : c.args.self.now.reading ≡ length ws + 1 =
    sym (ap (λ (f : WalkForm). f.reading) c.self.view_is) ∙ ap length c.in-Some.ensures.items ∙ length_push ws c.in-Some.walk in (
      sym (ap (λ (f : WalkForm). f.items) c.self.view_is) ∙ ap (stack_items sources) c.in-Some.ensures.items ∙ done.0,
      omega (arith, done.1, count),
    )
