use Rattle.std.proofs.Common.{take}
use Rattle.fv_lines.specs.Words.{depexes_in}
use Rattle.fv_lines.specs.inner.LineRuns.{PutsNotes}
use Rattle.fv_lines.proofs.depex_notes.put_depex_notes.Given as goal

abbrev pub invariant-loop-file : goal.invariant-loop-file
invariant-loop-file g l = PutsNotes g.S.Sink.takes (depexes_in (take l.file-index l.files)) l.initial.out l.out
