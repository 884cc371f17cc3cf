use Rattle.std.proofs.Common.{arith}
use Rattle.fv_c.proofs.survey.put_sections_survey.Goals as goal

pub put_rows_of-requires : goal.put_rows_of-requires
put_rows_of-requires c = rw c.in_ok-walk.ensures.rows (omega (arith, c.sections_keep_the_laws.ensures.few c.args.sections.now))
