use Rattle.std.proofs.Common.{ap}
use Rattle.fv_rows.specs.Words.{part_node}
use Rattle.fv_canon.proofs.DigestStartLemmas.{file_next, volume_next}
use Rattle.fv_canon.proofs.image_digests.ImageDigestsDigests.next_digest.Goals as goal

pub starts_inside-self-requires : goal.starts_inside-self-requires
starts_inside-self-requires c = (volume_next c.args.row.now _ c.requires.0 _ (ap part_node c.in-Volume.is) c.requires.1).1

pub volume_digest-requires : goal.volume_digest-requires
volume_digest-requires c = (volume_next c.args.row.now _ c.requires.0 _ (ap part_node c.in-Volume.is) c.requires.1).1

pub file_digest-requires : goal.file_digest-requires
file_digest-requires c = file_next c.args.row.now _ c.requires.0 _ (ap part_node c.in-File.is) c.requires.1

pub returns-in-Volume-clause-left : goal.returns-in-Volume-clause-left
returns-in-Volume-clause-left c = λ rest covers.
    let (more, own, here, next) = volume_next c.args.row.now _ rest _ (ap part_node c.in-Volume.is) covers in
    (covers.0.1, next _ (c.starts_inside-self.ensures more here))
