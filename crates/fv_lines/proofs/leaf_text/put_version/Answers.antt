use Rattle.std.proofs.Common.{[], inl, inr, refl}
use Rattle.fv_lines.proofs.leaf_text.put_version.Goals as goal

pub returns-in-Some : goal.returns-in-Some
returns-in-Some g c = (
  _,
  inl (c.in-Some.build, (c.in-Some.field-0-1.now, c.in-Some.ensures.found), refl),
  g.S.Sink.laws.joined c.put.ensures (rw c.from.ensures at c.put_decimal.ensures.text),
)

pub returns-in-None : goal.returns-in-None
returns-in-None g c = ([], inr (λ build h. c.in-None.ensures.none build h.0 h.1, refl), g.S.Sink.laws.none _)
