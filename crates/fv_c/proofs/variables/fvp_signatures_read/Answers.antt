use Rattle.std.proofs.Common.{ap, arith, length}
use Rattle.fv_c.proofs.VariableRows.{few_signatures}
use Rattle.fv_c.proofs.variables.fvp_signatures_read.Goals as goal

pub put_rows-all-requires : goal.put_rows-all-requires
put_rows-all-requires c = omega (arith, few_signatures c.args.bytes.now, ap length c.of_signatures-walk.ensures.rows)
