use Rattle.std.proofs.Common.{◌≡◌, ◌+◌, ◌*◌}
use Rattle.fv_extract.specs.Words.{PackedSearch, RowsSearch, SearchEnd}
use Rattle.fv_extract.proofs.opened_search.+search.Given as goal

abbrev pub decreases-put_in_packed : goal.decreases-put_in_packed
decreases-put_in_packed g l = 4 * l.deeper

abbrev pub decreases-put_in_part : goal.decreases-put_in_part
decreases-put_in_part g l = 4 * l.deeper + 1

abbrev pub decreases-put_in_rows : goal.decreases-put_in_rows
decreases-put_in_rows g l = 4 * l.deeper + 2

abbrev pub decreases-put_in_contents : goal.decreases-put_in_contents
decreases-put_in_contents g l = 4 * l.deeper + 3

-- nothing has been put, and the end of the search in the rows that are left is its end in all rows
abbrev pub invariant-put_in_rows-loop-row : goal.invariant-put_in_rows-loop-row
invariant-put_in_rows-loop-row g l =
    (goal.iterator-put_in_rows-loop-row g).can_next l.row-iterator
    × (goal.iterator-put_in_rows-loop-row g).is_finite l.row-iterator
    × (l.out ≡ l.initial.out)
    × ((end : SearchEnd) → RowsSearch l.request.part.name (PackedSearch l.request.part.name l.deeper) l.so_far l.row-iterator end
    → RowsSearch l.request.part.name (PackedSearch l.request.part.name l.deeper) l.fn.progress l.initial.row-iterator end)
