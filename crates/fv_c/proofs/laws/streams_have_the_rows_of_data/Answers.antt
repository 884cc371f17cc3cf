use Rattle.std.proofs.Common.{◌≡◌, ◌+◌, arith}
use Rattle.fv_c.proofs.DeeperRows.{sections_deeper}
use Rattle.fv_c.proofs.laws.streams_have_the_rows_of_data.Goals as goal

pub returns : goal.returns
returns c depth nesting tail sections =
    let d : depth + 0 ≡ depth = omega arith in
    let n : nesting + 0 ≡ nesting = omega arith in
    rw (d, n) at (sections_deeper depth nesting 0 0 0 sections)
