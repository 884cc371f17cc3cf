use Rattle.std.proofs.Common.{arith}
use Rattle.fv_survey.specs.Words.{lost_len}
use Rattle.fv_survey.proofs.PieceLaws.{search_begins, search_goes_on, search_ends, search_finds}
use Rattle.fv_survey.proofs.pieces.lost_len.Goals as goal

pub loop-at-init : goal.loop-at-init
loop-at-init c = search_begins c.args.layout c.args.rest.now c.requires.some c.requires.multiple

pub loop-at-preserved : goal.loop-at-preserved
loop-at-preserved c =
    search_goes_on c.args.layout c.args.rest.now _ c.loop-at.at c.loop-at.invariant (omega arith)
    (rw (← c.bytes_from.ensures, ← c.resumes.ensures) c.if-not-resumes.true)

pub returns-else-not-resumes : goal.returns-else-not-resumes
unfolding lost_len
returns-else-not-resumes c =
    search_finds c.args.layout c.args.rest.now _ c.loop-at.at c.loop-at.invariant
    (rw (← c.bytes_from.ensures, ← c.resumes.ensures) c.if-not-resumes.false)

pub returns-after-loop-at : goal.returns-after-loop-at
unfolding lost_len
returns-after-loop-at c = search_ends c.args.layout c.args.rest.now _ c.loop-at.at c.loop-at.invariant (omega arith)
