use Rattle.fv_base.proofs.Laws.{common_steps, arith}
use Rattle.fv_canon.proofs.DataBodyLaws.{data_held, data_image}
use Rattle.fv_canon.proofs.PartLengthLaws.{data_laid}
use Rattle.fv_canon.proofs.parts.put_laid_data.Goals as goal

pub put_body_image-requires : goal.put_body_image-requires
put_body_image-requires g c = record { laid = rw (c.data_body.ensures, data_held c.args.file.now) c.requires }

pub returns : goal.returns
returns g c = grind (arith, common_steps, data_laid, data_image) steps 400000
