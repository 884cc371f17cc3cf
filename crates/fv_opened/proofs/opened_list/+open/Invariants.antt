use Rattle.std.proofs.Common.{◌+◌, ◌*◌}
use Rattle.fv_budget.specs.declared.budget.Budget.{Budget}
use Rattle.fv_opened.specs.inner.OpenedPuts.{AreShallow, PutsOpenedRows}
use Rattle.fv_opened.proofs.opened_list.+open.Given as goal

abbrev pub decreases-put_packed : goal.decreases-put_packed
decreases-put_packed g l = 4 * l.level.deeper

abbrev pub decreases-put_part : goal.decreases-put_part
decreases-put_part g l = 4 * l.deeper + 1

abbrev pub decreases-put_rows : goal.decreases-put_rows
decreases-put_rows g l = 4 * l.level.deeper + 2

abbrev pub decreases-put_contents : goal.decreases-put_contents
decreases-put_contents g l = 4 * l.level.deeper + 3

-- the rows that are left are shallow; once their text is put, the text of all rows is put
abbrev pub invariant-put_rows-loop-row : goal.invariant-put_rows-loop-row
invariant-put_rows-loop-row g l =
    (goal.iterator-put_rows-loop-row g).can_next l.row-iterator
    × (goal.iterator-put_rows-loop-row g).is_finite l.row-iterator
    × AreShallow l.row-iterator
    × ((end : _) (t : Budget) → PutsOpenedRows g.S.Sink.takes l.level l.left l.row-iterator l.out end t
    → PutsOpenedRows g.S.Sink.takes l.level l.fn.budget l.initial.row-iterator l.initial.out end t)
