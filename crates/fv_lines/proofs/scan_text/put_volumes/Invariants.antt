use Rattle.fv_base.proofs.Laws.{take, flat_map}
use Rattle.fv_lines.specs.Words.{volume_line}
use Rattle.fv_lines.proofs.scan_text.put_volumes.Given as goal

abbrev pub invariant-loop-volume : goal.invariant-loop-volume
invariant-loop-volume g l = g.S.Sink.takes l.initial.out (flat_map volume_line (take l.volume-index l.volumes)) l.out
