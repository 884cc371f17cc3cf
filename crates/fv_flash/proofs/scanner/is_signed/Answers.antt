use Rattle.std.proofs.Common.{◌+◌, ◌-◌, ◌∙◌, arith}
use Rattle.fv_flash.proofs.ScanLaws.{signature_at}
use Rattle.fv_flash.proofs.scanner.is_signed.Goals as goal

pub returns : goal.returns
returns c = c.eq.ensures ∙ signature_at c.args.bytes.now c.args.at (c.args.at + 44 - (c.args.at + 40)) (omega arith)
