use Rattle.std.proofs.Common.{arith}
use Rattle.fv_lines.proofs.cell_text.put_cell_lines.Goals as goal

pub sums_of-requires : goal.sums_of-requires
sums_of-requires g c = omega (arith, c.requires.together)

pub returns : goal.returns
returns g c = let sums = rw c.sums_of.ensures at c.put_sums.ensures in search g.S.Sink.laws.joined
