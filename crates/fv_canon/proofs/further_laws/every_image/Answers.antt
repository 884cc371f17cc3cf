use Rattle.fv_canon.proofs.DecidedImageLaws.{every_image, never_image}
use Rattle.fv_canon.proofs.further_laws.every_image.Goals as goal

pub returns-clause-either : goal.returns-clause-either
returns-clause-either c = every_image

pub returns-clause-never : goal.returns-clause-never
returns-clause-never c = never_image
