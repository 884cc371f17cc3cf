use Rattle.std.proofs.Common.{[], ◌∙◌, refl}
use Rattle.fv_lines.proofs.list_text.put_list_with.Goals as goal

pub loop-row-init : goal.loop-row-init
loop-row-init g c =
    (tt, tt, rw (c.into_iter-row-iterator.ensures.into_iter_gives ∙ c.of-row-items.ensures) c.requires, λ end puts. puts)

pub next_digest-digest-requires : goal.next_digest-digest-requires
next_digest-digest-requires g c = (_, rw c.in-Some.ensures.steps at c.loop-row.invariant.2)

pub loop-row-preserved : goal.loop-row-preserved
loop-row-preserved g c = (
  tt,
  tt,
  c.next_digest-digest.ensures.left _ (rw c.in-Some.ensures.steps at c.loop-row.invariant.2),
  λ end puts.
      let (line, text, here) = c.put_row.ensures in
      let (rest, more, later) = puts in
      c.loop-row.invariant.3 end (rw c.in-Some.ensures.steps
      (_, (_, line, rest, c.next_digest-digest.ensures.digest, text, refl, more), g.S.Sink.laws.joined here later)),
)

pub returns : goal.returns
returns g c =
    rw (← c.into_iter-row-iterator.ensures.into_iter_gives ∙ c.of-row-items.ensures)
    (c.loop-row.invariant.3 c.loop-row.out (rw c.in-None.ensures.steps.0 ([], refl, g.S.Sink.laws.none _)))
