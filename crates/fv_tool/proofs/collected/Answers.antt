use Rattle.std.proofs.Common.{◌∙◌, ap}
use Rattle.std.proofs.IntoIterSteps.{All-taken}
use Rattle.std.specs.Vec.Iter.{into_iter_items}
use Rattle.fv_tool.proofs.collected.Goals as goal

-- when the loop ends, all arguments were taken
pub returns-clause-ok : goal.returns-clause-ok
returns-clause-ok c =
    let it = c.into_iter-word-iterator in
    c.loop-word.invariant
    ∙ All-taken it.result c.loop-word.yielded
    (c.next.new.self, (c.loop-word.word-iterator, c.loop-word.yielded_by, c.in-None.ensures.steps))
    ∙ ap into_iter_items it.ensures.into_iter_gives
