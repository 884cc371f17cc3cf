use Rattle.std.proofs.Common.{◌≡◌, ◌≤◌, ◌∙◌, ℕ, length, take}
use Rattle.fv_base.proofs.Laws.{List, depth_limit, subst, sym}
use Rattle.fv_tree.proofs.Laws.{whole_kept}
use Rattle.fv_tree.specs.Words.{Denotes, Meaning}
use Rattle.fv_marks.specs.Words.{VolumeLosesMarks}
use Rattle.fv_marks.proofs.copy.without_marks.Goals as goal

pub returns-clause-lost : goal.returns-clause-lost
returns-clause-lost c =
    let same = c.deref_mut.ensures.value ∙ c.in_ok-copy.ensures.items in
    let copy = whole_kept _ _ _ (c.take_marks.auto.bytes ∙ c.deref_mut.ensures.len) in
    subst (λ (o : List ℕ). VolumeLosesMarks c.args.bytes.now o) (sym copy)
    (subst (λ (b : List ℕ). VolumeLosesMarks b c.take_marks.new.bytes) same c.in_ok-take_marks.ensures.lost)

pub returns-clause-same : goal.returns-clause-same
returns-clause-same c =
    let same = c.deref_mut.ensures.value ∙ c.in_ok-copy.ensures.items in
    let copy = whole_kept _ _ _ (c.take_marks.auto.bytes ∙ c.deref_mut.ensures.len) in
    let stay = subst (λ (b : List ℕ). (n : ℕ) (m : Meaning) → n ≤ length b → Denotes depth_limit (take n b) m → c.take_marks.new.bytes ≡ b)
    same c.in_ok-take_marks.ensures.same in
    λ n m within d. copy ∙ stay n m within d
