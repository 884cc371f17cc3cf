use Rattle.std.proofs.lemmas.Grind.{common_steps}
use Rattle.std.proofs.Common.{◌≤◌, List, length, ap, arith}
use Rattle.fv_tree.specs.Words.{Meaning, SectionMeaning}
use Rattle.fv_tree.proofs.WalkedSectionLaws.{first_kept, rest_kept, each_first, tail_after}
use Rattle.fv_tree.proofs.view.Sections.next_section.Goals as goal

pub volumes_after-self-inside-requires : goal.volumes_after-self-inside-requires
volumes_after-self-inside-requires c =
    rw c.split_frame.ensures.frame (first_kept c.self.inside.left c.self.inside.rest.now _ (omega arith) c.self.invariant)

pub invariant_of-result : goal.invariant_of-result
invariant_of-result c =
    rw c.split_frame.ensures.frame (first_kept c.self.inside.left c.self.inside.rest.now _ (omega arith) c.self.invariant)

pub invariant_of-self : goal.invariant_of-self
invariant_of-self c = grind (arith, common_steps, rest_kept) steps 150000

pub returns-clause-some : goal.returns-clause-some
returns-clause-some c =
    let least : 4 ≤ length c.self.inside.rest.now = omega arith in
    let taken = rw c.split_frame.ensures.frame at c.volumes_after-self-inside.ensures in
    rw (← c.self.view_is, c.split_frame.ensures.after, c.split_frame.ensures.frame, taken)
    (ap (λ (r : List SectionMeaning × List Meaning). r.0) (each_first c.self.inside.left c.self.inside.rest.now c.self.inside.volumes.now least))

pub returns-clause-tail : goal.returns-clause-tail
returns-clause-tail c = grind (arith, common_steps, tail_after) steps 150000
