use Rattle.std.proofs.Common.{◌≡◌, ◌++◌, length}
use Rattle.std.specs.List.{filter}
use Rattle.fv_levels.specs.Words.{is_packed_row, packed_rows, source_form}
use Rattle.fv_levels.proofs.packed.packed_rows.Given as goal

-- the rows so far, and the rows of packed sections among the rows that are left, are the rows of all packed sections
abbrev pub invariant-loop-rows : goal.invariant-loop-rows
invariant-loop-rows l = l.rows.items ++ filter is_packed_row l.walk ≡ packed_rows (source_form l.fn.source)

abbrev pub decreases-loop-rows : goal.decreases-loop-rows
decreases-loop-rows l = length l.walk
