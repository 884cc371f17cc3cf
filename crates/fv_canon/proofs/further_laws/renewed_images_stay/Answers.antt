use Rattle.fv_canon.proofs.RenewedStaysLaws.{stays}
use Rattle.fv_canon.proofs.further_laws.renewed_images_stay.Goals as goal

pub returns : goal.returns
returns c = stays
