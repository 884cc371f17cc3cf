use Rattle.fv_same.proofs.PartLaws.{opened_says}
use Rattle.fv_same.proofs.further_laws.packing_does_not_count.Goals as goal

pub returns : goal.returns
returns c = opened_says
