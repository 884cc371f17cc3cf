use Rattle.fv_canon.proofs.RejectedInputLaws.{only_what_does_not_fit_is_rejected}
use Rattle.fv_canon.proofs.further_laws.only_what_does_not_fit_is_rejected.Goals as goal

pub returns : goal.returns
returns c = only_what_does_not_fit_is_rejected
