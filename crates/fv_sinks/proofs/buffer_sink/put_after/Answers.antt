use Rattle.std.proofs.Common.{◌+◌, ◌-◌, ◌∙◌, length, drop, arith, length-drop, length-take}
use Rattle.std.proofs.lemmas.Slice.{drop-put_mid}
use Rattle.fv_sinks.proofs.BufferLemmas.{room_left}
use Rattle.fv_sinks.proofs.buffer_sink.put_after.Goals as goal

pub returns-clause-rest : goal.returns-clause-rest
returns-clause-rest c =
    let at = c.args.at in
    let held = c.args.buffer.now in
    let count = c.min-count.result in
    let k = at + count - at in
    let put = c.copy_from_slice.ensures.len ∙ length-take k (drop at held) in
    drop-put_mid at k held c.copy_from_slice.new.self (at + count) (omega arith) (omega (arith, c.if-at-buffer.false))
    (omega (arith, put, length-drop at held, c.min-count.ensures))
    ∙ room_left held at (length c.args.bytes.now) count c.min-count.ensures
