use Rattle.std.proofs.Common.{[]}
use Rattle.fv_x86.proofs.FilterLemmas.{length_of_filtered}
use Rattle.fv_x86.proofs.further_laws.lengths_stay.Goals as goal

pub returns : goal.returns
returns c = λ bytes. length_of_filtered 0 0 [] bytes
