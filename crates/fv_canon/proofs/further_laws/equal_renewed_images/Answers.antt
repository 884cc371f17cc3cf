use Rattle.fv_canon.proofs.RenewedPlaceLaws.{same_renewed_image}
use Rattle.fv_canon.proofs.further_laws.equal_renewed_images.Goals as goal

pub returns : goal.returns
returns c = same_renewed_image
