use Rattle.fv_open.proofs.StreamLemmas.{pass_splits, stream_passes}
use Rattle.fv_open.proofs.further_laws.streams_pass.Goals as goal

pub returns-clause-only : goal.returns-clause-only
returns-clause-only c b is = pass_splits b is

pub returns-clause-all : goal.returns-clause-all
returns-clause-all c b (fs, tail, split) = stream_passes b fs tail split
