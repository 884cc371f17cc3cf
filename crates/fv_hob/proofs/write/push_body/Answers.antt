use Rattle.std.proofs.Common.{arith}
use Rattle.std.proofs.lemmas.Grind.{common_steps}
use Rattle.fv_hob.proofs.write.push_body.Goals as goal

pub returns-in-Capsule : goal.returns-in-Capsule
returns-in-Capsule c = grind (arith, common_steps)

pub returns-in-FirmwareVolume : goal.returns-in-FirmwareVolume
returns-in-FirmwareVolume c = grind (arith, common_steps)

pub returns-in-FirmwareVolume2 : goal.returns-in-FirmwareVolume2
returns-in-FirmwareVolume2 c = grind (arith, common_steps)

pub returns-in-Handoff : goal.returns-in-Handoff
returns-in-Handoff c = grind (arith, common_steps)
