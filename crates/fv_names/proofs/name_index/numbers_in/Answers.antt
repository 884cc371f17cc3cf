use Rattle.std.proofs.Common.{rules}
use Rattle.fv_names.proofs.name_index.numbers_in.Goals as goal

pub returns-clause-sixteen : goal.returns-clause-sixteen
returns-clause-sixteen c = (search rules, search rules)
