use Rattle.std.proofs.Common.{◌≡◌, ◌∙◌, ap, ap₂, arith, length, map, set, sym, take_all, zero-add}
use Rattle.std.proofs.lemmas.List.{get_or-map, length-map}
use Rattle.std.proofs.lemmas.List.Edits.{paste_more}
use Rattle.fv_c.proofs.buffer.put_each.Goals as goal

pub loop-i-preserved : goal.loop-i-preserved
loop-i-preserved g c =
    let f = g.T.Translate.translated in
    let long = length-map c.args.values.now f in
    let step = paste_more c.args.buffer.now 0 (map f c.args.values.now) c.loop-i.i c.translate.result (omega arith) (omega arith) in
    ap₂ (λ b row. set b c.loop-i.i row) c.loop-i.invariant
    (c.translate.ensures ∙ ap f c.index-values-i.is ∙ sym (get_or-map f _ _ _ c.translate.result c.loop-i-test.true))
    ∙ (simp zero-add at step)

pub returns : goal.returns
returns g c =
    let long = length-map c.args.values.now g.T.Translate.translated in
    let all = take_all c.loop-i.i (map g.T.Translate.translated c.args.values.now) (omega arith) in
    let done : c.loop-i.i ≡ length c.args.values.now = omega arith in
    rw (← done) (rw all at c.loop-i.invariant)
