use Rattle.std.proofs.Common.{◌+◌, ◌*◌, ◌≤◌, length}
use Rattle.fv_head.proofs.ExtLemmas.{EntriesLeft}
use Rattle.fv_head.proofs.ext.entry_count.Given as goal

-- the entries so far have at least 4 bytes each
abbrev pub invariant-loop-len : goal.invariant-loop-len
invariant-loop-len l = EntriesLeft l.count l.fn.bytes l.rest × (4 * l.count + length l.rest ≤ length l.fn.bytes)

abbrev pub decreases-loop-len : goal.decreases-loop-len
decreases-loop-len l = length l.rest
