use Rattle.std.proofs.Common.{◌∙◌, length, sym, ap, arith, rules}
use Rattle.fv_tree.specs.Words.{left_in}
use Rattle.fv_tree.proofs.SectionWalkLaws.{none_left, outer_are, next_other, other_are, next_group, group_are, group_fits}
use Rattle.fv_tree.proofs.section_walk.SectionWalkIterator.next.Goals as goal

-- ---- a section that is not a group

pub invariant_of-self : goal.invariant_of-self
invariant_of-self c =
    other_are c.loop-section.self-inside.outer.items c.loop-section.self-inside.sections c.next_section.new.self c.in-Some.section
    (rw c.in-Some.is at c.next_section.ensures.some) c.loop-section.invariant.levels

pub returns-in_default-body : goal.returns-in_default-body
returns-in_default-body c =
    let steps = sym c.self.view_is ∙ c.loop-section.invariant.left
    ∙ next_other c.loop-section.self-inside.outer.items c.loop-section.self-inside.sections c.next_section.new.self c.in-Some.section
    (rw c.in-Some.is at c.next_section.ensures.some) c.loop-section.invariant.levels c.body.result c.body.ensures c.in_default-body.not-Group in
    let shorter = ap length steps in
    record { steps = steps; goes = search rules }

-- ---- a group

pub push-requires : goal.push-requires
push-requires c =
    let fits = group_fits c.loop-section.self-inside.outer.items c.loop-section.self-inside.sections c.next_section.new.self c.in-Some.section
    (rw c.in-Some.is at c.next_section.ensures.some) c.loop-section.invariant.levels c.body.result c.body.ensures c.in-Group.inside c.in-Group.is in
    (omega arith, omega (arith, fits))

pub invariant_of-self-in-Some : goal.invariant_of-self-in-Some
invariant_of-self-in-Some c =
    rw (c.push.ensures.items, c.replace-around.ensures.value, c.replace-around.ensures.after)
    (group_are c.loop-section.self-inside.outer.items c.loop-section.self-inside.sections c.next_section.new.self c.in-Some.section
    (rw c.in-Some.is at c.next_section.ensures.some) c.loop-section.invariant.levels c.body.result c.body.ensures c.in-Group.inside c.in-Group.is)

pub returns-in-Some-clause-steps : goal.returns-in-Some-clause-steps
returns-in-Some-clause-steps c =
    rw (c.push.ensures.items, c.replace-around.ensures.value, c.replace-around.ensures.after) (sym c.self.view_is ∙ c.loop-section.invariant.left
    ∙ next_group c.loop-section.self-inside.outer.items c.loop-section.self-inside.sections c.next_section.new.self c.in-Some.section
    (rw c.in-Some.is at c.next_section.ensures.some) c.loop-section.invariant.levels c.body.result c.body.ensures c.in-Group.inside c.in-Group.is)

pub returns-in-Some-clause-goes : goal.returns-in-Some-clause-goes
returns-in-Some-clause-goes c = let shorter = ap length (returns-in-Some-clause-steps c) in search rules

-- ---- no section is left on the innermost level

pub loop-section-preserved : goal.loop-section-preserved
loop-section-preserved c =
    let none = (rw c.in_default.is at c.next_section.ensures.none).0 in
    let items = c.in_ok-self-inside.ensures.items in
    record {
      levels = rw items at (outer_are c.loop-section.self-inside.outer.items c.loop-section.self-inside.sections c.loop-section.invariant.levels);
      left = c.loop-section.invariant.left
          ∙ none_left c.loop-section.self-inside.outer.items c.loop-section.self-inside.sections none ∙ ap left_in items;
    }
