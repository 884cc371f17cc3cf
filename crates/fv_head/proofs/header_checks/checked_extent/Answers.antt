use Rattle.fv_base.proofs.Laws.{arith, common_steps}
use Rattle.fv_head.proofs.HeadPlaceLemmas.{ext_within, front_system}
use Rattle.fv_head.proofs.header_checks.checked_extent.Goals as goal

pub unreachable-requires : goal.unreachable-requires
unreachable-requires c = grind (arith, common_steps, front_system)

pub extent_at-requires-clause-ext : goal.extent_at-requires-clause-ext
extent_at-requires-clause-ext c = ext_within c.args.bytes.now c.requires.0 c.requires.1 c.requires.2

pub returns : goal.returns
returns c = grind (arith, common_steps, front_system)
