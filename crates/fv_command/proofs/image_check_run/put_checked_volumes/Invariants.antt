use Rattle.fv_base.proofs.Laws.{take, flat_map}
use Rattle.fv_command.specs.Words.{checked_line}
use Rattle.fv_command.proofs.image_check_run.put_checked_volumes.Given as goal

abbrev pub invariant-loop-check : goal.invariant-loop-check
invariant-loop-check g l = g.S.Sink.takes l.initial.out (flat_map checked_line (take l.check-index l.checks)) l.out
