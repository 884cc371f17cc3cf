use Rattle.std.proofs.Common.{zero-add}
use Rattle.fv_base.proofs.Laws.{arith, common_steps}
use Rattle.fv_file.specs.Words.{header_bytes}
use Rattle.fv_file.proofs.new_header.new_header_bytes.Goals as goal

pub returns-clause-is : goal.returns-clause-is
unfolding header_bytes
returns-clause-is c = grind (arith, common_steps, zero-add)
