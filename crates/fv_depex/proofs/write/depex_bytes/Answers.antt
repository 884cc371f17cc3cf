use Rattle.std.proofs.lemmas.Grind.{common_steps}
use Rattle.std.proofs.Common.{arith}
use Rattle.fv_depex.proofs.PathLemmas.{spelled_again}
use Rattle.fv_depex.proofs.write.depex_bytes.Goals as goal

pub returns-clause-spells : goal.returns-clause-spells
returns-clause-spells c = grind (arith, common_steps, spelled_again)
