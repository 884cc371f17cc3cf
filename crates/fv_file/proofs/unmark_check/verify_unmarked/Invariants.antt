use Rattle.std.proofs.Common.{◌-◌, length}
use Rattle.fv_file.proofs.MarkWalkLemmas.{UnmarkedUpto}
use Rattle.fv_file.proofs.unmark_check.verify_unmarked.Given as goal

abbrev pub invariant-loop-system : goal.invariant-loop-system
invariant-loop-system l = UnmarkedUpto l.fn.system l.fn.polarity l.fn.first l.initial.body l.at

abbrev pub decreases-loop-system : goal.decreases-loop-system
decreases-loop-system l = length l.initial.body - l.at
