use Rattle.std.proofs.Common.{sym}
use Rattle.std.specs.Cmp.Lexicographic.{unequal}
use Rattle.fv_tree.proofs.head_difference.same_entries.Goals as goal

pub returns-then-a-b : goal.returns-then-a-b
returns-then-a-b c = sym (unequal _ c.args.a.now c.args.b.now c.if-a-b.true)
