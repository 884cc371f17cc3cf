use Rattle.std.proofs.Common.{arith}
use Rattle.std.proofs.lemmas.Grind.{common_steps}
use Rattle.fv_flash.proofs.scanner.FoundVolume.bytes.Goals as goal

pub field-requires : goal.field-requires
field-requires c = grind (arith, common_steps)
