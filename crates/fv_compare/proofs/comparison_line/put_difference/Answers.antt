use Rattle.fv_compare.proofs.ComparisonLineLaws.{short_line}
use Rattle.fv_compare.proofs.comparison_line.put_difference.Goals as goal

pub returns-clause-line : goal.returns-clause-line
returns-clause-line g c =
    let path = rw c.steps.ensures at c.put_path.ensures.text in
    let word = rw (c.as_bytes.ensures.value, c.difference_word.ensures.text, c.word.ensures) at c.put-2.ensures in
    search g.S.Sink.laws.joined

pub returns-clause-short : goal.returns-clause-short
returns-clause-short g c =
    let path = c.put_path.ensures.short in
    let word = c.difference_word.ensures.short in
    short_line _ _ _ (rw c.steps.ensures at path) (rw (c.difference_word.ensures.text, c.word.ensures) at word)
