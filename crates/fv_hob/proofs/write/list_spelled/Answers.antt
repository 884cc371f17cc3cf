use Rattle.std.proofs.Common.{◌∙◌, ap, arith, take_all}
use Rattle.fv_hob.specs.Words.{list_spelled}
use Rattle.fv_hob.proofs.WriteLemmas.{spelled_more}
use Rattle.fv_hob.proofs.write.list_spelled.Goals as goal

pub loop-hob-preserved : goal.loop-hob-preserved
loop-hob-preserved c =
    spelled_more c.args.hobs.now c.loop-hob.hob-index c.hob-item.result c.loop-hob.bytes.items c.push_hob.new.bytes.items
    c.loop-hob-test.true c.hob-item.is c.loop-hob.invariant c.in_ok-push_hob.ensures

pub loop-hob-init : goal.loop-hob-init
loop-hob-init c = c.new-bytes.ensures.items

pub loop-hob-smaller : goal.loop-hob-smaller
loop-hob-smaller c = omega arith

pub returns : goal.returns
returns c = c.loop-hob.invariant ∙ ap list_spelled (take_all c.loop-hob.hob-index c.args.hobs.now (omega arith))
