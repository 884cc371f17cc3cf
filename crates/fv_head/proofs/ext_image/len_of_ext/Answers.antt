use Rattle.fv_base.proofs.Laws.{ap, arith, length, common_steps}
use Rattle.fv_head.specs.Words.{entries_len}
use Rattle.fv_head.proofs.ExtImageLemmas.{ext_len_most}
use Rattle.fv_head.proofs.ext_image.len_of_ext.Goals as goal

pub len_of_entries-requires : goal.len_of_entries-requires
len_of_entries-requires c = omega (arith, ext_len_most c.args.ext.now c.name-name.ensures.read, ap entries_len c.entries.ensures)

pub overflow_add-result : goal.overflow_add-result
overflow_add-result c =
    omega (arith, ext_len_most c.args.ext.now c.name-name.ensures.read, ap entries_len c.entries.ensures, c.len_of_entries.ensures)

pub overflow_cast-result : goal.overflow_cast-result
overflow_cast-result c = omega (arith, ext_len_most c.args.ext.now c.name-name.ensures.read, ap length c.tail.ensures)

pub overflow_add-result-2 : goal.overflow_add-result-2
overflow_add-result-2 c = grind (arith, common_steps, ext_len_most)

pub returns-clause-most : goal.returns-clause-most
returns-clause-most c =
    ext_len_most c.args.ext.now c.name-name.ensures.read
