use Rattle.std.proofs.Common.{rules, arith, ap, ◌∙◌, ◌<◌, length}
use Rattle.fv_text.specs.inner.HexDecoding.{value_or_16}
use Rattle.fv_text.proofs.HexDigitLemmas.{judges_next, value_put}
use Rattle.fv_text.proofs.hex_digits.take_values.Goals as goal

pub loop-i-preserved : goal.loop-i-preserved
loop-i-preserved c =
    let (long, front, rest, judges) = c.loop-i.invariant in
    let lt : c.loop-i.i < length c.args.digits.now = omega arith in
    let value = c.digit_value-value.result in
    let put = value_put c.args.digits.now c.loop-i.digits c.loop-i.i value _ lt long front rest c.digit_value-value.ensures in (
      search rules,
      put.0,
      put.1,
      judges_next c.args.digits.now c.loop-i.i _ c.loop-i.most value c.max-most.result lt
          (c.digit_value-value.ensures ∙ ap value_or_16 put.2) c.max-most.ensures judges,
    )
