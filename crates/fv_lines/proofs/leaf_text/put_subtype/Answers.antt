use Rattle.std.proofs.Common.{[], inl, inr, refl}
use Rattle.fv_lines.proofs.leaf_text.put_subtype.Goals as goal

pub returns-in-Some : goal.returns-in-Some
returns-in-Some g c = (
  _,
  inl (c.in-Some.guid, (c.in-Some.field-0-1.now, c.in-Some.ensures.found), refl),
  g.S.Sink.laws.joined c.put.ensures (rw c.text.ensures.text at c.put-in-Some.ensures),
)

pub returns-in-None : goal.returns-in-None
returns-in-None g c = ([], inr (λ guid h. c.in-None.ensures.none guid h.0 h.1, refl), g.S.Sink.laws.none _)
