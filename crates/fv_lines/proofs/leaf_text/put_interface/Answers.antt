use Rattle.std.proofs.Common.{[], inl, inr, refl}
use Rattle.fv_lines.proofs.leaf_text.put_interface.Goals as goal

pub returns-in-Some : goal.returns-in-Some
returns-in-Some g c = (
  _,
  inl (c.in-Some.units.now, c.in-Some.ensures.found, refl),
  g.S.Sink.laws.joined c.put.ensures (g.S.Sink.laws.joined c.put_units.ensures c.put-in-Some.ensures),
)

pub returns-in-None : goal.returns-in-None
returns-in-None g c = ([], inr (c.in-None.ensures.none, refl), g.S.Sink.laws.none _)
