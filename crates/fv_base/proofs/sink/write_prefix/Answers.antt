use Rattle.std.proofs.lemmas.Grind.{common_steps}
use Rattle.std.proofs.Common.{arith, length-drop}
use Rattle.fv_base.proofs.SinkLemmas.{more_written, some_taken}
use Rattle.fv_base.proofs.sink.write_prefix.Goals as goal

pub loop-at-preserved : goal.loop-at-preserved
loop-at-preserved g c = grind (arith, common_steps, length-drop, more_written, some_taken)

pub returns-in-Ok-eq0-clause-erred : goal.returns-in-Ok-eq0-clause-erred
returns-in-Ok-eq0-clause-erred c = grind (arith, common_steps)
