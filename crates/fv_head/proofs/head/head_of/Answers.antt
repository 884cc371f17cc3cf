use Rattle.fv_base.proofs.Laws.{arith, sym, common_steps}
use Rattle.fv_head.proofs.HeadCheckLemmas.{front_within}
use Rattle.fv_head.proofs.HeadPlaceLemmas.{kept_fields}
use Rattle.fv_head.proofs.head.head_of.Goals as goal

pub blocks_of-requires : goal.blocks_of-requires
blocks_of-requires c =
    omega (arith, c.field.ensures.length, front_within c.args.bytes.now c.requires.begins.0 c.args.extent.now c.requires.begins.1)

pub copy_from_slice-requires : goal.copy_from_slice-requires
copy_from_slice-requires c = sym c.field-2.ensures.length

pub u32_at-requires : goal.u32_at-requires
u32_at-requires c =
    omega (arith, front_within c.args.bytes.now c.requires.begins.0 c.args.extent.now c.requires.begins.1)

pub invariant_of-result : goal.invariant_of-result
invariant_of-result c = grind (arith, common_steps, kept_fields)

pub returns-clause-ok : goal.returns-clause-ok
returns-clause-ok c = grind (arith, common_steps, kept_fields)
