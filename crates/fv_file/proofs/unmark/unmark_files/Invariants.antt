use Rattle.std.proofs.Common.{◌-◌, length}
use Rattle.fv_file.proofs.UnmarkLemmas.{Unmarked}
use Rattle.fv_file.proofs.unmark.unmark_files.Given as goal

abbrev pub invariant-loop-polarity : goal.invariant-loop-polarity
invariant-loop-polarity l = Unmarked l.fn.system l.fn.polarity l.fn.first l.initial.body l.body l.at

abbrev pub decreases-loop-polarity : goal.decreases-loop-polarity
decreases-loop-polarity l = length l.body - l.at
