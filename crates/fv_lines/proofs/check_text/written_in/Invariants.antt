use Rattle.std.proofs.Common.{◌≡◌, take}
use Rattle.fv_lines.specs.Words.{written_in}
use Rattle.fv_lines.proofs.check_text.written_in.Given as goal

abbrev pub invariant-loop-byte : goal.invariant-loop-byte
invariant-loop-byte l = l.count ≡ written_in l.fn.polarity (take l.byte-index l.bytes)
