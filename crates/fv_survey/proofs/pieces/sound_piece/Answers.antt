use Rattle.fv_survey.proofs.StrictPieceLaws.{sound_fit}
use Rattle.fv_survey.proofs.pieces.sound_piece.Goals as goal

pub file_piece-requires-clause-header : goal.file_piece-requires-clause-header
file_piece-requires-clause-header c =
    rw c.sizes_at-sizes.ensures.sizes
    (sound_fit c.args.layout c.args.rest.now c.requires.sound (rw (← c.file_state.ensures, ← c.is_stub_state.ensures) c.if-is_stub_state.false)).1

pub file_piece-requires-clause-within : goal.file_piece-requires-clause-within
file_piece-requires-clause-within c =
    rw c.sizes_at-sizes.ensures.sizes
    (sound_fit c.args.layout c.args.rest.now c.requires.sound (rw (← c.file_state.ensures, ← c.is_stub_state.ensures) c.if-is_stub_state.false)).2
