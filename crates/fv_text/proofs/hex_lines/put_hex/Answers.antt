use Rattle.std.proofs.Common.{ℕ, ◌<◌, List, take, length, arith, ap, subst, length-take}
use Rattle.fv_text.proofs.HexTextLemmas.{text_put}
use Rattle.fv_text.proofs.hex_lines.put_hex.Goals as goal

pub returns : goal.returns
returns g c =
    let last : List ℕ = take c.put.new.self.filled c.put.new.self.line in
    let short : length last < 32 = omega (arith, length-take c.put.new.self.filled c.put.new.self.line, c.put.new.self.room) in
    let put = text_put g.S.Sink.laws _ _ _ _ c.args.bytes.now last
    (ap (λ (n : ℕ). take n c.new-lines.result.line) c.new-lines.ensures.filled) short c.put.ensures c.finish.ensures in (
      put.0,
      put.1,
      subst (λ (s : g.row.S.Denot). g.S.Sink.takes s put.0 c.finish.result) c.new-lines.ensures.below put.2,
    )
