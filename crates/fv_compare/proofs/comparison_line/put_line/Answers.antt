use Rattle.std.proofs.Common.{arith}
use Rattle.fv_compare.proofs.comparison_line.put_line.Goals as goal

pub returns-in-Some-clause-line : goal.returns-in-Some-clause-line
returns-in-Some-clause-line g c = rw c.in-Some.is c.put_difference.ensures.line

pub returns-in-Some-clause-short : goal.returns-in-Some-clause-short
returns-in-Some-clause-short g c =
    rw c.in-Some.is (omega (arith, c.put_difference.ensures.short, rw c.in-Some.is at c.requires.few))
