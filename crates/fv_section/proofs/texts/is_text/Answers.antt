use Rattle.std.proofs.Common.{arith}
use Rattle.std.proofs.lemmas.Grind.{common_steps}
use Rattle.fv_section.proofs.texts.is_text.Goals as goal

pub returns-then-read_u16-eq0 : goal.returns-then-read_u16-eq0
returns-then-read_u16-eq0 c = grind (arith, common_steps)
