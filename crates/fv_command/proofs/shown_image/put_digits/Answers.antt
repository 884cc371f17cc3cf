use Rattle.std.proofs.Common.{subst, ℕ, ◌<◌, List, take, length, arith, ap, length-take}
use Rattle.fv_text.proofs.Laws.{text_put}
use Rattle.fv_command.proofs.shown_image.put_digits.Goals as goal

pub returns : goal.returns
returns g c =
    let image : List ℕ = c.put_into.ensures.0 in
    let last : List ℕ = take c.put_into.new.out.filled c.put_into.new.out.line in
    let short : length last < 32 =
    omega (arith, length-take c.put_into.new.out.filled c.put_into.new.out.line, c.put_into.new.out.room) in
    let put = text_put g.S.Sink.laws _ _ _ _ image last
    (ap (λ (n : ℕ). take n c.new-lines.result.line) c.new-lines.ensures.filled) short c.put_into.ensures.2 c.finish.ensures in (
      image,
      put.0,
      c.put_into.ensures.1,
      put.1,
      subst (λ (s : g.row.S.Denot). g.S.Sink.takes s put.0 c.finish.result) c.new-lines.ensures.below put.2,
    )
