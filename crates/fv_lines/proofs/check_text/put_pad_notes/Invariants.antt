use Rattle.std.proofs.Common.{List, length}
use Rattle.fv_file.specs.Words.{CellForm, Walked}
use Rattle.fv_lines.specs.Words.{pad_notes}
use Rattle.fv_lines.proofs.check_text.put_pad_notes.Given as goal

-- the walk passed some cells, and the notes on them were put
abbrev pub invariant-loop-cell : goal.invariant-loop-cell
invariant-loop-cell g l =
    (cs : List CellForm) × Walked l.fn.walk cs l.walk × g.S.Sink.takes l.initial.out (pad_notes l.polarity cs) l.out

abbrev pub decreases-loop-cell : goal.decreases-loop-cell
decreases-loop-cell g l = length l.walk.rest
