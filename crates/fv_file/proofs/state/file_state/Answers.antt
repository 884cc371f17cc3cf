use Rattle.fv_base.proofs.Laws.{◌∙◌, ap}
use Rattle.fv_file.specs.Words.{state_of, state_in}
use Rattle.fv_file.proofs.state.file_state.Goals as goal

pub returns : goal.returns
unfolding state_of
returns c = c.state_in.ensures ∙ ap state_in c.bits_of.ensures
