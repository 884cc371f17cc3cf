use Rattle.std.proofs.Common.{drop}
use Rattle.fv_canon.proofs.LaidVolumeLaws.{PutsVolumes}
use Rattle.fv_canon.proofs.flash_image.put_normalised.Given as goal

abbrev pub invariant-loop-volume : goal.invariant-loop-volume
invariant-loop-volume g l = PutsVolumes g.S.Sink.takes l.initial.out l.out l.image l.volumes (drop l.volume-index l.volumes) l.from
