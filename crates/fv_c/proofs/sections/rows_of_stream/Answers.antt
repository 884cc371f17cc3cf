use Rattle.fv_base.proofs.Laws.{err_is}
use Rattle.fv_rows.proofs.Laws.{stream_nests}
use Rattle.fv_c.proofs.SectionRows.{has_frame, none_rows}
use Rattle.fv_c.proofs.TreeLoop.{stream_holds, stream_put}
use Rattle.fv_c.proofs.sections.rows_of_stream.Goals as goal

pub returns-then-is_empty-clause-ok : goal.returns-then-is_empty-clause-ok
returns-then-is_empty-clause-ok c =
    rw c.new.ensures.items (none_rows c.args.input.now c.args.stream.now.0 c.args.stream.now.1 c.requires (c.is_empty.ensures.none c.if-is_empty.true))

pub put_parts-requires-clause-nest : goal.put_parts-requires-clause-nest
put_parts-requires-clause-nest c =
    rw c.sections-sections.ensures (stream_nests c.args.stream.now.0 c.args.stream.now.1 c.args.input.now c.requires)

pub put_parts-requires-clause-held : goal.put_parts-requires-clause-held
put_parts-requires-clause-held c =
    rw (c.sections-sections.ensures, c.in_ok-rows.ensures.items)
    (stream_holds c.args.input.now c.args.stream.now.0 c.args.stream.now.1 c.requires _)

pub returns-in_err-rows-clause-memory : goal.returns-in_err-rows-clause-memory
returns-in_err-rows-clause-memory c =
    rw (err_is c.from_residual.ensures.1)
    (has_frame c.args.stream.now.0 c.args.stream.now.1 c.args.input.now c.requires (c.is_empty.ensures.some c.if-is_empty.false))

pub returns-in_err-put_parts-clause-memory : goal.returns-in_err-put_parts-clause-memory
returns-in_err-put_parts-clause-memory c =
    rw (err_is c.from_residual-in_err-put_parts.ensures.1)
    (has_frame c.args.stream.now.0 c.args.stream.now.1 c.args.input.now c.requires (c.is_empty.ensures.some c.if-is_empty.false))

pub returns-clause-ok : goal.returns-clause-ok
returns-clause-ok c =
    stream_put c.args.input.now c.args.stream.now.0 c.args.stream.now.1 c.requires c.put_parts.new.rows.items
    (rw (c.sections-sections.ensures, c.in_ok-rows.ensures.items) at c.in_ok-put_parts.ensures.ok)
