use Rattle.fv_base.proofs.Laws.{common_steps, arith}
use Rattle.fv_canon.proofs.ImageLaws.{image_begun}
use Rattle.fv_canon.proofs.parts.put_laid_volume.Goals as goal

pub put_image-requires : goal.put_image-requires
put_image-requires g c = record { laid = c.requires }

pub returns : goal.returns
returns g c = grind (arith, common_steps, image_begun) steps 400000
