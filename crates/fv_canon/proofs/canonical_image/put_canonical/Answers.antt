use Rattle.fv_canon.proofs.PartLengthLaws.{begin_all}
use Rattle.fv_canon.proofs.canonical_image.put_canonical.Goals as goal

pub put_laid_volume-requires : goal.put_laid_volume-requires
put_laid_volume-requires g c = rw c.starts.ensures (begin_all _ _ c.requires.0)
