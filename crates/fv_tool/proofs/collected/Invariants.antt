use Rattle.std.proofs.Common.{◌≡◌}
use Rattle.fv_tool.proofs.collected.Given as goal

abbrev pub invariant-loop-word : goal.invariant-loop-word
invariant-loop-word l = l.words.items ≡ l.yielded
