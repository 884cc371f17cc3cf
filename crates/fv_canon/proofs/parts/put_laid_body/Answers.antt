use Rattle.fv_base.proofs.Laws.{common_steps, arith}
use Rattle.fv_canon.proofs.PartLengthLaws.{begin_all, body_is}
use Rattle.fv_canon.proofs.parts.put_laid_body.Goals as goal

pub put_body_image-requires : goal.put_body_image-requires
put_body_image-requires g c = record { laid = rw c.body.ensures (begin_all _ c.args.starts.now c.requires) }

pub returns : goal.returns
returns g c = grind (arith, common_steps, body_is) steps 400000
