use Rattle.fv_canon.proofs.ImageCheckLaws.{canonical_images_stay}
use Rattle.fv_canon.proofs.further_laws.canonical_images_stay.Goals as goal

pub returns : goal.returns
returns c = canonical_images_stay
