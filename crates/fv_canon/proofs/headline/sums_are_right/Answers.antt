use Rattle.fv_canon.proofs.SumRightLaws.{sums_are_right}
use Rattle.fv_canon.proofs.headline.sums_are_right.Goals as goal

pub returns : goal.returns
returns c = sums_are_right
