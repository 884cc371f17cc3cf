use Rattle.std.proofs.Common.{List, ℕ, length, ap, arith, length-drop}
use Rattle.fv_survey.proofs.header.volume_end.Goals as goal

pub cut_before-requires : goal.cut_before-requires
cut_before-requires c =
    let long = ap (λ (h : List ℕ). length h) c.bytes_from.ensures in
    omega (arith, long, length-drop 56 c.args.bytes.now, c.extent_len-len.ensures.lies.1)
