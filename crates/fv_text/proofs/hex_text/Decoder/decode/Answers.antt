use Rattle.std.proofs.Common.{rules, arith, refl, inl, inr}
use Rattle.fv_text.proofs.HexInLemmas.{MakesRoom, pairs_decoded}
use Rattle.fv_text.proofs.hex_text.Decoder.decode.Goals as goal
use Rattle.fv_text.proofs.hex_text.Decoder.decode.Goals.{then-len, else-len}

pub returns-clause-read : goal.returns-clause-read
returns-clause-read c =
    let room : MakesRoom c.args.self.now c.if-len.self =
    elim c.if-len.branch [
      | then-len w ↦ rw w.self-is (
        refl,
        inr (refl, omega (arith, w.if-len.true, c.len.ensures, c.len-2.ensures, c.args.self.now.digits.ok.0, c.args.self.now.bytes.ok.0)),
      )
      | else-len w ↦ rw w.self-is (refl, inl (refl, refl))
    ] in
    pairs_decoded c.args.self.now c.if-len.self _ c.deref_mut.result.now c.in_ok-self.field-0 room (search rules)
    c.in_ok-self.ensures.read c.in_ok-self.ensures.wrong refl refl
