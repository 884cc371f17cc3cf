use Rattle.std.proofs.Common.{rules}
use Rattle.fv_base.proofs.Laws.{arith, common_steps, bytes_take}
use Rattle.fv_file.proofs.new_header.header_of.Goals as goal

pub returns-clause-bytes : goal.returns-clause-bytes
returns-clause-bytes c = bytes_take c.header_len.result c.whole_bytes.result (search rules)

pub returns-clause-name : goal.returns-clause-name
returns-clause-name c = grind (arith, common_steps)
