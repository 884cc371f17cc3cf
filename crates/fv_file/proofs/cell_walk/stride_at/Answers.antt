use Rattle.fv_base.proofs.Laws.{◌∙◌, arith}
use Rattle.fv_file.proofs.StrideLemmas.{stride_here}
use Rattle.fv_file.proofs.cell_walk.stride_at.Goals as goal

pub returns-then-rest-header-clause-cell : goal.returns-then-rest-header-clause-cell
returns-then-rest-header-clause-cell c = λ system d x behind e is free.
    let s = stride_here system c.args.polarity d c.args.rest.now x behind e is free in
    omega (arith, s.header, s.within)

pub returns-then-is_unfinished-clause-cell : goal.returns-then-is_unfinished-clause-cell
returns-then-is_unfinished-clause-cell c = λ system d x behind e is free.
    let s = stride_here system c.args.polarity d c.args.rest.now x behind e is free in
    c.header_len_at-header.ensures ∙ rw (← c.file_state.ensures, ← c.is_unfinished.ensures, c.if-is_unfinished.true) at s.is

pub returns-clause-cell : goal.returns-clause-cell
returns-clause-cell c = λ system d x behind e is free.
    let s = stride_here system c.args.polarity d c.args.rest.now x behind e is free in
    let size = rw (← c.file_state.ensures, ← c.is_unfinished.ensures, c.if-is_unfinished.false) at s.is in
    omega (arith, size, s.header, s.within)
