use Rattle.std.proofs.Common.{◌+◌, refl, ◌≡◌, ◌∷◌, ℕ, arith, length, rules}
use Rattle.fv_rows.proofs.Laws.{deep, inside_nests}
use Rattle.fv_rows.specs.Words.{nodes_of, part_node}
use Rattle.fv_c.specs.ReportedSections.{IsStreamNodeIn}
use Rattle.fv_c.specs.ReportedTree.{bytes_at}
use Rattle.fv_c.specs.inner.Trees.{row_in}
use Rattle.fv_c.proofs.TreeRows.{contents, first_begins}
use Rattle.fv_c.proofs.TreeLoop.{Putting, none_added, part_holds, part_lies, put_more, row_found}
use Rattle.fv_c.proofs.tree.+put_parts.Goals.{After-node_in-node, In-Some}
use Rattle.fv_c.proofs.tree.+put_parts.Goals as goal

-- the invariant, with the next part before the parts that are left
putting : (t : ℕ) (c : In-Some t) → Putting c.args.input.now c.args.holder.now (nodes_of c.args.parts) c.args.rows.now.items
    (part_node c.in-Some.part ∷ nodes_of c.next_part.new.parts) c.loop-part.number c.loop-part.next c.loop-part.rows.items
putting t c = rw c.in-Some.ensures.some at c.loop-part.invariant

-- the new row reports the next part
found : (t : ℕ) (c : After-node_in-node t) → IsStreamNodeIn c.args.input.now c.loop-part.rows.items c.node_in-node.result
    (row_in c.args.holder.now c.loop-part.number (part_node c.in-Some.part))
found t c = row_found (rw c.in-Some.ensures.some at c.loop-part.invariant) c.node_in-node.result c.node_in-node.ensures

pub node_in-node-requires-clause-file : goal.node_in-node-requires-clause-file
node_in-node-requires-clause-file t c = (part_lies (putting t (goal.at.node_in-node-requires-clause-file t c).In-Some)).0

pub node_in-node-requires-clause-within : goal.node_in-node-requires-clause-within
node_in-node-requires-clause-within t c =
    omega (arith, (part_lies (putting t (goal.at.node_in-node-requires-clause-within t c).In-Some)).1.within, c.requires.short)

pub files_in-requires : goal.files_in-requires
files_in-requires t c = record { row = (_, _, found t (goal.at.files_in-requires t c).After-node_in-node) }

pub overflow_add-next : goal.overflow_add-next
overflow_add-next t c = omega (arith, (found t (goal.at.overflow_add-next t c).After-node_in-node).within, c.requires.short)

pub overflow_add-next-in-Some : goal.overflow_add-next-in-Some
overflow_add-next-in-Some t c = omega (arith, (found t (goal.at.overflow_add-next-in-Some t c).After-node_in-node).within, c.requires.short)

pub overflow_mul-next : goal.overflow_mul-next
overflow_mul-next t c = omega (arith, (found t (goal.at.overflow_mul-next t c).After-node_in-node).within, c.requires.short)

pub loop-part-init : goal.loop-part-init
loop-part-init t c =
    let begins = λ (two : c.requires.held.0.content ≡ 2). first_begins 0 (bytes_at c.args.input.now c.requires.held.0) in
    record { left_is = refl; held = c.requires.held; begins = begins; nests = c.requires.nest; added = λ new all. all }

-- ---- a part that holds no part

pub loop-part-preserved-then-node-eq-BYTES : goal.loop-part-preserved-then-node-eq-BYTES
loop-part-preserved-then-node-eq-BYTES t c =
    let leaf : c.node_in-node.result.content ≡ 1 = search rules in
    let p = putting t (goal.at.loop-part-preserved-then-node-eq-BYTES t c).In-Some in
    let none = (contents (row_found p c.node_in-node.result c.node_in-node.ensures)).none leaf in
    put_more p c.node_in-node.result c.node_in-node.ensures c.push.new.self.items
    (rw (c.in_ok-push.ensures.items, none) (none_added c.args.input.now (length c.loop-part.rows.items) (c.args.holder.now.depth + 1) 0 _))

-- ---- a part that holds parts

pub put_parts-requires : goal.put_parts-requires
put_parts-requires t c =
    let number : c.len-row.result ≡ length c.loop-part.rows.items = search rules in
    let p = putting t (goal.at.put_parts-requires t c).In-Some in
    let room = deep c.args.holder.now.depth (part_node c.in-Some.part) p.nests.0 in
    let nests = inside_nests c.args.holder.now.depth (part_node c.in-Some.part) p.nests.0 in
    let few = rw c.parts_in.ensures.nodes at c.parts_in.ensures.few in
    let held = part_holds p c.node_in-node.result c.node_in-node.ensures c.in_ok-files_in.field-0 c.in_ok-files_in.ensures.files in
    rw c.parts_in.ensures.nodes
    (omega (arith, c.decreases, room), (c.requires.short, (nests, (few, rw (number, c.in_ok-push.ensures.items) held))))

pub loop-part-preserved : goal.loop-part-preserved
loop-part-preserved t c =
    let number : c.len-row.result ≡ length c.loop-part.rows.items = search rules in
    put_more (putting t (goal.at.loop-part-preserved t c).In-Some) c.node_in-node.result c.node_in-node.ensures c.put_parts.new.rows.items
    (rw (number, c.in_ok-push.ensures.items, c.parts_in.ensures.nodes) at c.in_ok-put_parts.ensures.ok)
