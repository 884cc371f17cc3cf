use Rattle.fv_canon.proofs.HeadlineLaws.{image_is_its_own_image}
use Rattle.fv_canon.proofs.headline.image_is_its_own_image.Goals as goal

pub returns : goal.returns
returns c = image_is_its_own_image
