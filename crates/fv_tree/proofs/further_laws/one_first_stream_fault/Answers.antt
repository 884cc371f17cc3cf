use Rattle.fv_tree.proofs.StreamInputLaws.{first_of_stream}
use Rattle.fv_tree.proofs.further_laws.one_first_stream_fault.Goals as goal

pub returns : goal.returns
returns c = first_of_stream
