use Rattle.std.proofs.Common.{◌-◌, length}
use Rattle.fv_rows.specs.Words.{nodes_of}
use Rattle.fv_c.proofs.TreeLoop.{Putting}
use Rattle.fv_c.proofs.tree.+put_parts.Given as goal

-- the rows of the parts so far, and the parts that are left
abbrev pub invariant-loop-part : goal.invariant-loop-part
invariant-loop-part l =
    Putting l.input l.holder (nodes_of l.initial.parts) l.initial.rows.items (nodes_of l.parts) l.number l.next l.rows.items

abbrev pub decreases-loop-part : goal.decreases-loop-part
decreases-loop-part l = length (nodes_of l.parts)

abbrev pub decreases-put_parts : goal.decreases-put_parts
decreases-put_parts l = 27 - l.holder.now.depth
