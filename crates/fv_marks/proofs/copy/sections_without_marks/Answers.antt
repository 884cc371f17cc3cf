use Rattle.std.proofs.Common.{◌≡◌, ◌∙◌, ℕ}
use Rattle.fv_base.proofs.Laws.{List, depth_limit, subst}
use Rattle.fv_tree.proofs.Laws.{whole_kept}
use Rattle.fv_tree.specs.Words.{SectionMeaning, Stream}
use Rattle.fv_marks.proofs.copy.sections_without_marks.Goals as goal

pub returns-clause-same : goal.returns-clause-same
returns-clause-same c =
    let same = c.deref_mut.ensures.value ∙ c.in_ok-copy.ensures.items in
    let copy = whole_kept _ _ _ (c.take_marks_of_sections.auto.bytes ∙ c.deref_mut.ensures.len) in
    let stay = subst (λ (b : List ℕ). (sections : List SectionMeaning) (tail : ℕ) → Stream depth_limit sections tail b
    → c.take_marks_of_sections.new.bytes ≡ b) same c.in_ok-take_marks_of_sections.ensures.same in
    λ sections tail d. copy ∙ stay sections tail d
