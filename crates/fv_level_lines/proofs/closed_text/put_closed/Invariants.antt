use Rattle.std.proofs.Common.{take}
use Rattle.std.specs.List.{flat_map}
use Rattle.fv_level_lines.specs.Words.{closed_line}
use Rattle.fv_level_lines.proofs.closed_text.put_closed.Given as goal

-- the lines of the sections so far have been put
abbrev pub invariant-loop-closed : goal.invariant-loop-closed
invariant-loop-closed g l = g.S.Sink.takes l.initial.out (flat_map closed_line (take l.closed-index l.sections)) l.out
