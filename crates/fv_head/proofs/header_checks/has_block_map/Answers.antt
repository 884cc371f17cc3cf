use Rattle.fv_base.proofs.Laws.{arith, common_steps}
use Rattle.fv_head.proofs.header_checks.has_block_map.Goals as goal

pub returns-else-u32_at-eq0 : goal.returns-else-u32_at-eq0
returns-else-u32_at-eq0 c = grind (arith, common_steps)

pub returns-then-u32_at-eq0 : goal.returns-then-u32_at-eq0
returns-then-u32_at-eq0 c = grind (arith, common_steps)
