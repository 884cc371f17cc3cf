use Rattle.std.proofs.Common.{◌≡◌, ◌∷◌, arith}
use Rattle.fv_c.proofs.ListedRows.{list_one_more, room_left}
use Rattle.fv_c.proofs.variables.put_rows.Goals as goal

pub overflow_add-count : goal.overflow_add-count
overflow_add-count c =
    let first : c.loop-row.walk ≡ c.in-Some.row ∷ c.next_row.new.self = rw c.in-Some.is at c.next_row.ensures.some in
    omega (arith, room_left c.in-Some.row c.next_row.new.self first c.loop-row.invariant, c.requires)

pub loop-row-preserved : goal.loop-row-preserved
loop-row-preserved c =
    let first : c.loop-row.walk ≡ c.in-Some.row ∷ c.next_row.new.self = rw c.in-Some.is at c.next_row.ensures.some in
    list_one_more c.in-Some.row c.next_row.new.self c.put_row.new.rows first c.put_row.ensures.fits c.put_row.ensures.full
    c.loop-row.invariant
