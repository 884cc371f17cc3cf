use Rattle.std.proofs.Common.{◌∙◌, map, sym, ap, arith}
use Rattle.fv_rows.specs.Words.{FileNode, nodes_of}
use Rattle.fv_rows.specs.declared.tree_walk.Parts.TheVariants as helds
use Rattle.fv_rows.proofs.RowWalkLaws.{next_fits, next_left, rest_are}
use Rattle.fv_rows.proofs.tree_walk.TreeWalk.next_plain.Goals as goal

pub overflow_add-self : goal.overflow_add-self
overflow_add-self c =
    let is = ap nodes_of c.in-Files.is ∙ ap (map FileNode) c.in_ok-file.ensures.cases.0 in
    omega (arith, (next_fits _ _ _ (helds.Files c.in_ok-file.rest) is c.self.invariant).1)

pub invariant_of-self : goal.invariant_of-self
invariant_of-self c =
    rest_are _ _ _ (helds.Files c.in_ok-file.rest) (ap nodes_of c.in-Files.is ∙ ap (map FileNode) c.in_ok-file.ensures.cases.0) c.self.invariant

pub returns-clause-some : goal.returns-clause-some
returns-clause-some c =
    let is = ap nodes_of c.in-Files.is ∙ ap (map FileNode) c.in_ok-file.ensures.cases.0 in
    let next = next_left _ _ _ (helds.Files c.in_ok-file.rest) is c.self.invariant in
    rw c.len.ensures.value (sym c.self.view_is ∙ rw (← c.in-Plain.ensures) at next)
