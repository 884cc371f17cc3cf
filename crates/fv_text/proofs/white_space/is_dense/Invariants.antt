use Rattle.std.proofs.Common.{◌≤◌, take}
use Rattle.std.specs.List.{All}
use Rattle.fv_text.proofs.white_space.is_dense.Given as goal

-- each byte so far is at least the least one
abbrev pub invariant-loop-byte : goal.invariant-loop-byte
invariant-loop-byte l = All (λ b. l.least ≤ b) (take l.byte-index l.fn.window)
