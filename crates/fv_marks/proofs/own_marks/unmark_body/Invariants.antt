use Rattle.std.proofs.Common.{◌-◌, length}
use Rattle.fv_marks.proofs.OwnMarkLemmas.{Upto}
use Rattle.fv_marks.proofs.own_marks.unmark_body.Given as goal

abbrev pub invariant-loop-span : goal.invariant-loop-span
invariant-loop-span l = Upto l.fn.system l.fn.polarity l.fn.first l.initial.volume l.volume l.at

abbrev pub decreases-loop-span : goal.decreases-loop-span
decreases-loop-span l = length l.initial.volume - l.at
