use Rattle.std.proofs.Common.{◌≡◌, ◌∷◌, arith}
use Rattle.fv_c.proofs.ListedRows.{list_one_more, room_left}
use Rattle.fv_c.proofs.survey.put_rows_of.Goals as goal

pub overflow_add-count : goal.overflow_add-count
overflow_add-count c =
    let first : c.loop-walk.walk ≡ c.in-Some.row ∷ c.next_row.new.self = rw c.in-Some.is at c.in_ok-row.ensures.some in
    omega (arith, room_left c.in-Some.row c.next_row.new.self first c.loop-walk.invariant, c.requires)

pub loop-walk-preserved : goal.loop-walk-preserved
loop-walk-preserved c =
    let first : c.loop-walk.walk ≡ c.in-Some.row ∷ c.next_row.new.self = rw c.in-Some.is at c.in_ok-row.ensures.some in
    list_one_more c.in-Some.row c.next_row.new.self c.put_row.new.rows first c.put_row.ensures.fits c.put_row.ensures.full c.loop-walk.invariant
