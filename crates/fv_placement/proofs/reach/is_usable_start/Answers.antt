use Rattle.std.proofs.Common.{rules}
use Rattle.fv_placement.proofs.reach.is_usable_start.Goals as goal

pub returns-then-start-item : goal.returns-then-start-item
returns-then-start-item c = search rules fits 300 steps 1000000

pub returns-else-start-item : goal.returns-else-start-item
returns-else-start-item c = search rules fits 100 steps 300000
