use Rattle.std.proofs.Common.{take_all}
use Rattle.std.proofs.lemmas.List.{map_more}
use Rattle.fv_c.proofs.translate.translate_all.Goals as goal

pub loop-value-preserved : goal.loop-value-preserved
loop-value-preserved g c =
    let more = map_more g.T.Translate.translated c.args.list.now c.loop-value.value-index c.value-item.result c.loop-value-test.true in
    cc c.in_ok-push.ensures.items

pub returns-clause-values : goal.returns-clause-values
returns-clause-values g c = rw (take_all c.loop-value.value-index c.args.list.now c.loop-value-test.false) at c.loop-value.invariant
