use Rattle.std.proofs.Common.{[], append-nil}
use Rattle.fv_canon.proofs.VolumeListLaws.{inside_begins}
use Rattle.fv_canon.proofs.parts.starts_inside.Goals as goal

pub split_at-requires : goal.split_at-requires
split_at-requires c = (inside_begins c.args.volume.now c.files.result.now [] c.args.starts.now c.files.ensures (rw append-nil c.requires)).0

pub returns : goal.returns
returns c more begins =
    rw c.split_at.ensures.back (inside_begins c.args.volume.now c.files.result.now more c.args.starts.now c.files.ensures begins).1
