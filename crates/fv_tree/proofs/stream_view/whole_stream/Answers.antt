use Rattle.std.proofs.Common.{leb-true}
use Rattle.fv_base.proofs.Laws.{err_is, volume_limit}
use Rattle.fv_tree.proofs.StreamInputLaws.{stream_holds, stream_kinds, stream_made, stream_only, stream_rejected}
use Rattle.fv_tree.proofs.stream_view.whole_stream.Goals as goal

pub returns-in_err-read_stream-clause-rejected : goal.returns-in_err-read_stream-clause-rejected
returns-in_err-read_stream-clause-rejected c =
    rw (err_is c.from_residual-in_err-read_stream.ensures.1)
    (stream_rejected c.args.input.now _ (leb-true _ volume_limit c.in_ok-check.ensures.ok) c.in_err-read_stream.ensures.read)

pub returns-in_err-read_stream-clause-holds : goal.returns-in_err-read_stream-clause-holds
returns-in_err-read_stream-clause-holds c =
    rw (err_is c.from_residual-in_err-read_stream.ensures.1) (stream_holds c.args.input.now _ c.in_err-read_stream.ensures.read)

pub returns-in_err-read_stream-clause-kind : goal.returns-in_err-read_stream-clause-kind
returns-in_err-read_stream-clause-kind c =
    rw (err_is c.from_residual-in_err-read_stream.ensures.1) (stream_kinds c.args.input.now _ c.in_err-read_stream.ensures.read)

pub invariant_of-result : goal.invariant_of-result
invariant_of-result c =
    stream_made c.args.input.now _ c.read_stream.new.volumes.items c.new-volumes.ensures.items (leb-true _ volume_limit c.in_ok-check.ensures.ok)
    c.in_ok-read_stream.ensures.read

pub returns-clause-found : goal.returns-clause-found
returns-clause-found c =
    stream_made c.args.input.now _ c.read_stream.new.volumes.items c.new-volumes.ensures.items (leb-true _ volume_limit c.in_ok-check.ensures.ok)
    c.in_ok-read_stream.ensures.read

pub returns-clause-only : goal.returns-clause-only
returns-clause-only c sections tail is =
    let own = stream_made c.args.input.now _ c.read_stream.new.volumes.items c.new-volumes.ensures.items (leb-true _ volume_limit c.in_ok-check.ensures.ok)
    c.in_ok-read_stream.ensures.read in
    stream_only _ _ c.args.input.now own sections tail is
