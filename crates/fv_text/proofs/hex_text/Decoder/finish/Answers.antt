use Rattle.std.proofs.Common.{arith}
use Rattle.std.proofs.lemmas.Grind.{common_steps}
use Rattle.fv_base.proofs.Laws.{◌∙◌, inl, inr, up_is_not_down}
use Rattle.fv_text.proofs.HexInLemmas.{none_waits, odd_is_no_text, one_waits, spoilt_is_no_text, whole_reads}
use Rattle.fv_text.proofs.hex_text.Decoder.finish.Goals.{then-is_wrong, else-is_wrong}
use Rattle.fv_text.proofs.hex_text.Decoder.finish.Goals as goal

pub returns-then-not-is_empty-clause-err : goal.returns-then-not-is_empty-clause-err
returns-then-not-is_empty-clause-err c = λ text so_far.
    inl (
      elim c.if-is_wrong.branch [
        | then-is_wrong w ↦ spoilt_is_no_text text (so_far.wrong w.if-is_wrong.true)
        | else-is_wrong w ↦
            let one = one_waits _ _ _ _ c.if-not-is_empty.true w.value-is w.is_empty.ensures c.args.self.digits.ok.0 so_far.waiting in
            odd_is_no_text text _ _ _ one (so_far.right w.if-is_wrong.false)
      ],
      c.outer.ensures,
    )

pub returns-then-is_long-clause-err : goal.returns-then-is_long-clause-err
returns-then-is_long-clause-err c = λ text so_far.
    inr (elim c.if-is_wrong.branch [
      | then-is_wrong w ↦ absurd (up_is_not_down c.if-is_wrong.value (w.value-is ∙ w.if-is_wrong.true) c.if-not-is_empty.false)
      | else-is_wrong w ↦
          let held = so_far.right w.if-is_wrong.false in
          let none = none_waits _ _ _ _ c.if-not-is_empty.false w.value-is w.is_empty.ensures c.args.self.digits.ok.0 in
          (held.bytes, whole_reads text _ _ _ none held, held.many c.if-is_long.true, c.outer-then-is_long.ensures)
    ])

pub returns-clause-read : goal.returns-clause-read
returns-clause-read c = grind (arith, common_steps)
