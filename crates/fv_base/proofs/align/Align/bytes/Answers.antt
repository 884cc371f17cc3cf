use Rattle.std.proofs.Common.{rules}
use Rattle.fv_base.proofs.align.Align.bytes.Goals as goal

pub returns-clause-power : goal.returns-clause-power
returns-clause-power c = (c.self.inside.exponent, c.self.invariant, search rules)
