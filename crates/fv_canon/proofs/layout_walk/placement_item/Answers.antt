use Rattle.fv_base.proofs.Laws.{arith, common_steps}
use Rattle.fv_canon.proofs.FileItemLaws.{data_short, head_most}
use Rattle.fv_canon.proofs.layout_walk.placement_item.Goals as goal

pub header_len_for-header-requires : goal.header_len_for-header-requires
header_len_for-header-requires c = omega (arith, data_short c.args.file.now c.name-name.ensures.read, c.data_len-data_len.ensures)

pub overflow_add-result : goal.overflow_add-result
overflow_add-result c = grind (arith, common_steps, data_short, head_most) steps 400000
