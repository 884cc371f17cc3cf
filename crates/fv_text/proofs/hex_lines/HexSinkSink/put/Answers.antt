use Rattle.std.proofs.Common.{ℕ, List, length, take, drop, ◌≤◌, arith, subst, sym, length-drop}
use Rattle.std.proofs.Math.Seq.{take-add}
use Rattle.fv_text.specs.Words.{Lined}
use Rattle.fv_text.specs.inner.SinkAdapterLaws.{lined_joined}
use Rattle.fv_text.proofs.hex_lines.HexSinkSink.put.Goals as goal

pub loop-at-preserved : goal.loop-at-preserved
loop-at-preserved g c =
    let bytes = c.args.bytes.now in
    let n = c.take_some-at.result in
    let at = c.loop-at.at in
    let s = c.args.self.now in
    let t = c.loop-at.self in
    let u = c.take_some-at.new.self in
    let bound = subst (λ (xs : List ℕ). n ≤ length xs) c.bytes_from.ensures c.take_some-at.ensures.bound in
    let before : List ℕ = take s.filled s.line in
    let waiting : List ℕ = take t.filled t.line in
    let after : List ℕ = take u.filled u.line in
    let step = subst (λ (xs : List ℕ). Lined g.S.Sink.takes t.below waiting (take n xs) u.below after) c.bytes_from.ensures
    c.take_some-at.ensures.takes in
    let joined = lined_joined g.S.Sink.takes g.S.Sink.laws s.below t.below u.below before waiting after (take at bytes)
    (take n (drop at bytes)) c.loop-at.invariant.1 step in (
      omega (arith, length-drop at bytes, bound),
      subst (λ (xs : List ℕ). Lined g.S.Sink.takes s.below before xs u.below after) (sym (take-add at n bytes)) joined,
    )
