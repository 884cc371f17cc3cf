use Rattle.std.proofs.Common.{arith, refl, ap, ap₂, ◌∙◌, ◌+◌, ◌/◌, ◌++◌, List, ℕ, length, subst, map}
use Rattle.std.specs.List.{All}
use Rattle.fv_text.specs.inner.HexDecoding.{IsNibble, joined_pairs, value_or_16}
use Rattle.fv_text.proofs.HexDigitLemmas.{joined_spell, kept_front, whole_room}
use Rattle.fv_text.proofs.hex_digits.push_pairs.Goals as goal

pub returns-clause-read : goal.returns-clause-read
returns-clause-read c = λ _.
    let values = c.if-not-take_values.ensures.values in
    let long = ap length c.deref_mut.ensures.value in (
      joined_pairs (map value_or_16 c.args.digits.now),
      joined_spell c.args.digits.now c.requires.even (subst (All IsNibble) values (c.if-not-take_values.ensures.right refl)),
      whole_room c.resize.new.self.items c.join_pairs.new.room c.resize.new.self.len
          (omega (arith, c.resize.new.self.ok.0)) (omega (arith, c.join_pairs.auto.room, long))
          ∙ c.join_pairs.ensures
          ∙ ap₂ (λ (l k : List ℕ). l ++ k)
          (kept_front c.args.bytes.now.items _ c.deref_mut.result.now c.len-start.result (c.len-start.result + length c.take_values.new.digits / 2)
          (omega (arith, c.len-start.ensures, c.args.bytes.now.ok.0)) (omega arith) (c.deref_mut.ensures.value ∙ c.in_ok-resize.ensures.items))
          (ap joined_pairs values),
    )
