use Rattle.fv_file.proofs.state.bits_of.Goals as goal

pub returns-in-Zeros : goal.returns-in-Zeros
returns-in-Zeros c = rw c.in-Zeros.is
