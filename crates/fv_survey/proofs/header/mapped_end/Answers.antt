use Rattle.std.proofs.Common.{List, ℕ, ◌-◌, ap, ◌∙◌, arith}
use Rattle.fv_base.specs.Words.{field}
use Rattle.fv_head.specs.Words.{pairs_of}
use Rattle.fv_survey.specs.Words.{map_end}
use Rattle.fv_survey.proofs.MapLaws.{map_bytes}
use Rattle.fv_survey.proofs.header.mapped_end.Goals as goal

pub loop-count-init : goal.loop-count-init
loop-count-init c =
    let bytes = c.args.bytes.now in
    let end = ap (λ (n : ℕ). field 56 (n - 56) bytes) c.min-end.ensures in (
      omega arith,
      omega (arith, c.field-rest.ensures.length, c.min-end.ensures, c.requires),
      ap (λ (xs : List ℕ). map_end 56 (pairs_of xs)) (c.field-rest.ensures.bytes ∙ end ∙ map_bytes bytes c.requires),
    )
