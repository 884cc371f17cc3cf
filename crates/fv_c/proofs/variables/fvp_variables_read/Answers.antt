use Rattle.std.proofs.Common.{ap, arith, length}
use Rattle.fv_c.proofs.VariableRows.{few_rows}
use Rattle.fv_c.proofs.variables.fvp_variables_read.Goals as goal

pub put_rows-all-requires : goal.put_rows-all-requires
put_rows-all-requires c = omega (arith, few_rows c.args.bytes.now, ap length c.of_stores-walk.ensures.rows)
