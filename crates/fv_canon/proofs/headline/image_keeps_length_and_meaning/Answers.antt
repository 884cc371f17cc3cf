use Rattle.fv_canon.proofs.HeadlineLaws.{image_keeps_length_and_meaning}
use Rattle.fv_canon.proofs.headline.image_keeps_length_and_meaning.Goals as goal

pub returns : goal.returns
returns c = image_keeps_length_and_meaning
