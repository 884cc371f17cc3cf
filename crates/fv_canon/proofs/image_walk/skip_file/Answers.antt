use Rattle.fv_canon.proofs.LayoutWalkLaws.{file_volumes}
use Rattle.fv_canon.proofs.image_walk.skip_file.Goals as goal

pub skip_starts-requires : goal.skip_starts-requires
skip_starts-requires c = record { laid = rw (c.inside.ensures, file_volumes c.args.file.now) c.requires }

pub returns : goal.returns
returns c = let left = c.skip_starts.ensures in rw (c.inside.ensures, file_volumes c.args.file.now) at left
