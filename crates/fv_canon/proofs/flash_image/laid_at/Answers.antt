use Rattle.std.proofs.Common.{rules}
use Rattle.fv_canon.proofs.FlashImageLaws.{place_fits}
use Rattle.fv_canon.proofs.LaidVolumeLaws.{told_at}
use Rattle.fv_canon.proofs.flash_image.laid_at.Goals as goal

pub fault_within-requires : goal.fault_within-requires
fault_within-requires c =
    place_fits c.args.image.now c.bytes.result.now c.args.volume.offset c.args.volume.length c.in-Err.fault c.requires c.bytes.ensures.length
    (search rules) c.in-Err.ensures.err

pub returns-in-Err-clause-err : goal.returns-in-Err-clause-err
returns-in-Err-clause-err c =
    told_at c.args.image.now c.bytes.result.now c.args.volume.offset c.args.volume.length c.in-Err.fault c.fault_within.result c.requires
    c.bytes.ensures.bytes c.in-Err.ensures.err c.fault_within.ensures.moved
