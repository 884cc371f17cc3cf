use Rattle.std.proofs.Common.{ap, ◌∙◌, arith, ◌≡◌, ◌%◌, refl}
use Rattle.fv_file.specs.Words.{state_in, state_of, bits_of}
use Rattle.fv_survey.specs.Words.{counted_state}
use Rattle.fv_survey.proofs.PieceLaws.{counted_ones}
use Rattle.fv_survey.proofs.pieces.counted_state.Goals.{in-Ones, in-Zeros}
use Rattle.fv_survey.proofs.pieces.counted_state.Goals as goal

pub returns : goal.returns
unfolding counted_state state_of
returns c =
    let bits : bits_of c.args.polarity c.match-polarity.counted ≡ bits_of c.args.polarity c.args.byte % 64 = elim c.match-polarity.branch [
      | in-Ones w ↦ rw (w.in-Ones.is, w.counted-is) (counted_ones c.args.byte (omega arith))
      | in-Zeros w ↦ rw (w.in-Zeros.is, w.counted-is) refl
    ] in
    c.file_state.ensures ∙ ap state_in bits
