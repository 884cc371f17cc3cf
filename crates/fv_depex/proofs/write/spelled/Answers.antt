use Rattle.std.proofs.lemmas.Grind.{common_steps}
use Rattle.std.proofs.Common.{arith}
use Rattle.std.proofs.Common.{append-nil}
use Rattle.fv_base.proofs.Laws.{take_more}
use Rattle.fv_depex.proofs.PathLemmas.{bytes_join}
use Rattle.fv_depex.proofs.write.spelled.Goals as goal

pub loop-op-preserved : goal.loop-op-preserved
loop-op-preserved c = grind (arith, common_steps, take_more, bytes_join, append-nil)

pub returns : goal.returns
returns c = grind (arith, common_steps)
