use Rattle.fv_survey.specs.Words.{damaged_piece}
use Rattle.fv_survey.proofs.pieces.damaged_piece.Goals as goal

pub returns-in-Some : goal.returns-in-Some
unfolding damaged_piece
returns-in-Some c = rw (
  ← c.sizes_at-stated.ensures.sizes,
  ← c.in-Some.ensures.sizes,
  ← c.sizes_at-stated.ensures.sizes,
  ← c.file_findings-findings.ensures,
) c.file_piece.ensures

pub returns-in-None : goal.returns-in-None
unfolding damaged_piece
returns-in-None c = rw (
  ← c.sizes_at-stated.ensures.sizes,
  ← c.in-None.ensures.sizes,
  ← c.lost_len.ensures,
  ← c.of.ensures,
) c.plain.ensures
