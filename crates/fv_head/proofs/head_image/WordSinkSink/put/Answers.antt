use Rattle.fv_base.proofs.Laws.{take_all}
use Rattle.fv_head.proofs.HeadImageLemmas.{words_added}
use Rattle.fv_head.proofs.HeadWalkLemmas.{byte_added}
use Rattle.fv_head.proofs.head_image.WordSinkSink.put.Goals as goal

pub returns-then-bytes-eq0 : goal.returns-then-bytes-eq0
returns-then-bytes-eq0 c =
    words_added c.args.self.now.high c.args.bytes.now c.args.self.now.total c.sum16.result c.if-not-self.true c.if-bytes-eq0.true
    c.sum16.ensures

pub loop-byte-preserved : goal.loop-byte-preserved
loop-byte-preserved c =
    byte_added c.args.self.now.high c.loop-byte.self.high c.args.bytes.now c.loop-byte.byte-index c.args.self.now.total
    c.loop-byte.self.total _ c.loop-byte-test.true c.loop-byte.invariant.0 c.loop-byte.invariant.1 c.word_weight.ensures

pub returns : goal.returns
returns c = rw (take_all c.loop-byte.byte-index c.args.bytes.now c.loop-byte-test.false) at c.loop-byte.invariant
