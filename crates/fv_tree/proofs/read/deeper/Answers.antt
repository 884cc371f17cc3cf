use Rattle.std.proofs.Common.{rules}
use Rattle.fv_tree.proofs.read.deeper.Goals as goal

pub returns-clause-ok : goal.returns-clause-ok
returns-clause-ok c = search rules fits 100 steps 300000

pub returns-then-left-eq0-clause-err : goal.returns-then-left-eq0-clause-err
returns-then-left-eq0-clause-err c = search rules fits 100 steps 300000
