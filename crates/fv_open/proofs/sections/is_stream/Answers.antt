use Rattle.std.proofs.Common.{sym}
use Rattle.fv_open.proofs.StreamLemmas.{fault_fails, stream_passes}
use Rattle.fv_open.proofs.sections.is_stream.Goals as goal

pub returns-in-Ok : goal.returns-in-Ok
returns-in-Ok c = sym (stream_passes c.args.bytes.now _ _ c.in-Ok.ensures.found)

pub returns-in-Err : goal.returns-in-Err
returns-in-Err c = sym (fault_fails c.args.bytes.now c.in-Err.field-0 c.in-Err.ensures.first)
