use Rattle.std.proofs.lemmas.Grind.{common_steps}
use Rattle.std.proofs.Common.{◌≡◌, ◌-◌, ℕ, List, get_or, sym, ap, subst, ◌∙◌, arith, inl, inr}
use Rattle.fv_base.proofs.Laws.{cases_lt, not_from_Decides, get_or_default}
use Rattle.fv_names.specs.Words.{Entry}
use Rattle.fv_names.proofs.EntryOrderLaws.{halves_decide, same_pair}
use Rattle.fv_names.proofs.name_index.NameIndex.are_distinct.Goals as goal

name : Entry → ℕ × ℕ
name x = x.0

pub loop-next-preserved : goal.loop-next-preserved
loop-next-preserved c = λ e p above l same.
    let es : List Entry = c.args.self.now.sorted.items in
    let i : ℕ = c.loop-next.next in
    let a : Entry = c.index.result.now in
    let b : Entry = c.index-in-loop-next.result.now in
    elim (cases_lt p i) [
      | inl lt ↦ c.loop-next.invariant e p above lt same
      | inr ge ↦
          let is : p ≡ i = omega (arith, ge, l) in
          let here : (get_or es (i - 1) e).0 ≡ (get_or es i e).0 = subst (λ (k : ℕ). (get_or es (k - 1) e).0 ≡ (get_or es k e).0) is same in
          not_from_Decides _ (halves_decide a.0 b.0) (sym c.if-eq.ensures)
          (ap (λ (x : Entry). x.0) (c.index.ensures ∙ get_or_default es (i - 1) a e (omega arith)) ∙ here
          ∙ ap (λ (x : Entry). x.0) (sym (c.index-in-loop-next.ensures ∙ get_or_default es i b e (omega arith))))
    ]

pub returns-then-eq-clause-all : goal.returns-then-eq-clause-all
returns-then-eq-clause-all c = λ apart. let here = apart c.index.result.now c.loop-next.next in grind (arith, common_steps, here, same_pair, get_or_default)
