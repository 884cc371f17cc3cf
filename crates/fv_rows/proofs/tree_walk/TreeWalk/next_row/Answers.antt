use Rattle.std.proofs.Common.{◌∙◌, length, sym, ap, subst, arith}
use Rattle.fv_rows.specs.Words.{AreRowLevels, rows_left_in}
use Rattle.fv_rows.proofs.RowWalkLaws.{inside_are, inside_left, levels_less, next_fits, next_left, none_left, rest_are}
use Rattle.fv_rows.proofs.tree_walk.TreeWalk.next_row.Goals as goal

pub overflow_add-self : goal.overflow_add-self
overflow_add-self c =
    omega (arith, (next_fits _ _ _ c.next_part.new.parts c.in-Some.ensures.some c.loop-part.invariant.levels).1)

-- ---- a part without contents

pub invariant_of-self : goal.invariant_of-self
invariant_of-self c = rest_are _ _ _ c.next_part.new.parts c.in-Some.ensures.some c.loop-part.invariant.levels

pub returns-in-Nothing : goal.returns-in-Nothing
returns-in-Nothing c =
    let next = next_left _ _ _ c.next_part.new.parts c.in-Some.ensures.some c.loop-part.invariant.levels in
    rw c.len-depth.ensures.value (sym c.self.view_is ∙ c.loop-part.invariant.left
    ∙ rw (← c.parts_in-parts.ensures.nodes, c.in-Nothing.is) at next)

-- ---- a part with contents

pub nesting_inside-requires : goal.nesting_inside-requires
nesting_inside-requires c =
    omega (arith, (next_fits _ _ _ c.next_part.new.parts c.in-Some.ensures.some c.loop-part.invariant.levels).2)

pub push-requires : goal.push-requires
push-requires c =
    omega (arith, (next_fits _ _ _ c.next_part.new.parts c.in-Some.ensures.some c.loop-part.invariant.levels).0)

pub invariant_of-self-in-Some : goal.invariant_of-self-in-Some
invariant_of-self-in-Some c =
    rw (c.push.ensures.items, c.replace-around.ensures.value, c.replace-around.ensures.after)
    (inside_are _ _ _ c.next_part.new.parts c.in-Some.ensures.some c.loop-part.invariant.levels _ _ c.nesting_inside.ensures
    c.parts_in-parts.ensures.nodes c.parts_in-parts.ensures.few)

pub returns-in-Some : goal.returns-in-Some
returns-in-Some c =
    rw (c.push.ensures.items, c.replace-around.ensures.value, c.replace-around.ensures.after, c.len-depth.ensures.value)
    (sym c.self.view_is ∙ c.loop-part.invariant.left ∙ inside_left _ _ _ c.next_part.new.parts c.in-Some.ensures.some
    c.loop-part.invariant.levels _ _ c.nesting_inside.ensures c.parts_in-parts.ensures.nodes)

-- ---- no part is left on the innermost level

pub loop-part-preserved : goal.loop-part-preserved
loop-part-preserved c =
    let levels = c.loop-part.self-inside.outer.items in
    let l = c.loop-part.self-inside.level in
    let items = c.in_ok-self-inside.ensures.items in
    record {
      levels = subst (AreRowLevels 0) items (levels_less 0 (length levels) levels l (omega arith) c.loop-part.invariant.levels).0;
      left = c.loop-part.invariant.left ∙ none_left levels l (rw c.in_default.is at c.next_part.ensures.none).0 ∙ ap (rows_left_in 0) items;
    }
