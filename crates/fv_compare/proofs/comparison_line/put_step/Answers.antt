use Rattle.std.proofs.Common.{arith, decimal, codes}
use Rattle.fv_compare.proofs.ComparisonLineLaws.{short_step}
use Rattle.fv_compare.proofs.comparison_line.put_step.Goals as goal

pub returns-in-File-clause-text : goal.returns-in-File-clause-text
returns-in-File-clause-text g c = rw c.in-File.is (search g.S.Sink.laws.joined)

pub returns-in-File-clause-short : goal.returns-in-File-clause-short
returns-in-File-clause-short g c =
    rw c.in-File.is (short_step (codes "file ") (decimal c.in-File.number) (omega arith) c.put_decimal.ensures.short)

pub returns-in-Section-clause-text : goal.returns-in-Section-clause-text
returns-in-Section-clause-text g c = rw c.in-Section.is (search g.S.Sink.laws.joined)

pub returns-in-Section-clause-short : goal.returns-in-Section-clause-short
returns-in-Section-clause-short g c =
    rw c.in-Section.is (short_step (codes "section ") (decimal c.in-Section.number) (omega arith) c.put_decimal-in-Section.ensures.short)
