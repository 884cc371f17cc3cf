use Rattle.fv_canon.proofs.OneRejectionLaws.{rejects_once}
use Rattle.fv_canon.proofs.further_laws.one_rejection.Goals as goal

pub returns : goal.returns
returns c = rejects_once
