use Rattle.std.proofs.Common.{refl}
use Rattle.fv_variables.specs.Words.{signature_rows}
use Rattle.fv_variables.proofs.HonestLaws.{honest_lists}
use Rattle.fv_variables.proofs.ListLaws.{lists_read}
use Rattle.fv_variables.proofs.RowLaws.{tiling_lists}
use Rattle.fv_variables.proofs.walk.RowWalk.of_signatures.Goals as goal

pub returns-clause-rows : goal.returns-clause-rows
unfolding signature_rows
returns-clause-rows c = refl

pub returns-clause-tiling : goal.returns-clause-tiling
unfolding signature_rows
returns-clause-tiling c = tiling_lists c.args.bytes.now

pub returns-clause-honest : goal.returns-clause-honest
unfolding signature_rows
returns-clause-honest c = honest_lists c.args.bytes.now

pub returns-clause-lists : goal.returns-clause-lists
unfolding signature_rows
returns-clause-lists c = λ lists joins. lists_read lists c.args.bytes.now joins
