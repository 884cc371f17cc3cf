use Rattle.fv_canon.proofs.HeadlineLaws.{same_meaning_iff_same_image}
use Rattle.fv_canon.proofs.headline.same_meaning_iff_same_image.Goals as goal

pub returns : goal.returns
returns c = same_meaning_iff_same_image
