use Rattle.std.proofs.lemmas.Grind.{common_steps}
use Rattle.std.proofs.Common.{◌≡◌, ◌<◌, ◌+◌, ℕ, List, length, get_or, sym, ap, ◌∙◌, subst, arith}
use Rattle.fv_base.proofs.Laws.{get_or_default}
use Rattle.fv_names.specs.Words.{Entry, Halves}
use Rattle.fv_names.specs.inner.NameOrders.{IsShared}
use Rattle.fv_names.proofs.EntryOrderLaws.{halves_decide}
use Rattle.fv_names.proofs.IndexLaws.{second_has, shared_by}
use Rattle.fv_names.proofs.name_index.NameIndex.is_shared.Goals as goal

pub overflow_add-second : goal.overflow_add-second
overflow_add-second c = omega (arith, c.place_of-second.ensures.most)

pub returns-then-second-len-clause-yes : goal.returns-then-second-len-clause-yes
returns-then-second-len-clause-yes c = λ sorted same e.
    let es : List Entry = c.args.self.now.sorted.items in
    let first : ℕ = c.place_of-second.result in
    let key : Halves = c.halves-key.result in
    let a : Entry = c.index.result.now in
    let l : first + 1 < length es = omega arith in
    let here : a.0 ≡ (get_or es (first + 1) e).0 = ap (λ (x : Entry). x.0) (c.index.ensures ∙ get_or_default es (first + 1) a e l) in
    subst (IsShared es e) c.halves-key.ensures.is
    (shared_by es key sorted first (c.place_of-second.ensures.parted sorted) e l (sym here ∙ (halves_decide a.0 key).0 (sym c.eq.ensures ∙ same)))

pub returns-then-second-len-clause-all : goal.returns-then-second-len-clause-all
returns-then-second-len-clause-all c = λ sorted e shared.
    let has = second_has _ c.halves-key.result sorted _ (c.place_of-second.ensures.parted sorted) e (subst (IsShared _ e) (sym c.halves-key.ensures.is) shared) in
    grind (arith, common_steps, has, get_or_default)

pub returns-else-second-len-clause-all : goal.returns-else-second-len-clause-all
returns-else-second-len-clause-all c = λ sorted e shared.
    let es : List Entry = c.args.self.now.sorted.items in
    let has = second_has es c.halves-key.result sorted c.place_of-second.result (c.place_of-second.ensures.parted sorted) e
    (subst (IsShared es e) (sym c.halves-key.ensures.is) shared) in
    absurd (omega (arith, has.0, c.if-second-len.false, c.len.ensures))
