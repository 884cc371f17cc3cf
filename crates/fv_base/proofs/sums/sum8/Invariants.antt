use Rattle.std.proofs.Common.{◌≡◌, ◌%◌, take, sum}
use Rattle.fv_base.proofs.sums.sum8.Given as goal

-- the total is the sum of the bytes so far, modulo 256
abbrev pub invariant-loop-byte : goal.invariant-loop-byte
invariant-loop-byte l = l.total ≡ sum (take l.byte-index l.fn.bytes) % 256
