use Rattle.std.proofs.Common.{ap, ◌∙◌}
use Rattle.fv_tiano.specs.Words.{tiano, bits_of}
use Rattle.fv_tiano.specs.declared.width.Width.TheVariants as widths
use Rattle.fv_open.specs.Words.{standard_of}
use Rattle.fv_open.proofs.StandardLemmas.{takes_other, takes_uefi}
use Rattle.fv_open.proofs.further_laws.standard_data.Goals as goal

pub returns-clause-uefi : goal.returns-clause-uefi
returns-clause-uefi c limit b contents is stream =
    let other = tiano (bits_of widths.Tiano) limit b in
    ap (λ r. standard_of r other) is ∙ takes_uefi contents other stream

pub returns-clause-other : goal.returns-clause-other
returns-clause-other c limit b contents is none =
    let other = tiano (bits_of widths.Tiano) limit b in
    ap (λ r. standard_of r other) is ∙ takes_other contents other none

pub returns-clause-none : goal.returns-clause-none
returns-clause-none c limit b f is = ap (λ r. standard_of r (tiano (bits_of widths.Tiano) limit b)) is
