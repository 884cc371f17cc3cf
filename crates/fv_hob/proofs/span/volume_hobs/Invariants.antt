use Rattle.std.proofs.Common.{◌≡◌, take}
use Rattle.fv_hob.specs.Words.{spans_of}
use Rattle.fv_hob.proofs.span.volume_hobs.Given as goal

abbrev pub invariant-loop-hob : goal.invariant-loop-hob
invariant-loop-hob l = l.list.items ≡ spans_of (take l.hob-index l.fn.hobs)
