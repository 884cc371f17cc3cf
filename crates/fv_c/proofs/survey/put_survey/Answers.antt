use Rattle.std.proofs.Common.{arith}
use Rattle.fv_survey.proofs.Laws.{few}
use Rattle.fv_c.proofs.survey.put_survey.Goals as goal

pub put_rows_of-requires : goal.put_rows_of-requires
put_rows_of-requires c = rw c.in_ok-walk.ensures.rows (omega (arith, few c.args.image.now))
