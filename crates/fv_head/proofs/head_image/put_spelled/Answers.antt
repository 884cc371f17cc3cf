use Rattle.fv_base.proofs.Laws.{◌∙◌, ap}
use Rattle.fv_head.specs.Words.{pairs_bytes, head_spelled}
use Rattle.fv_head.proofs.HeadWalkLemmas.{renamed}
use Rattle.fv_head.proofs.head_image.put_spelled.Goals as goal

pub returns-clause-bytes : goal.returns-clause-bytes
unfolding head_spelled
returns-clause-bytes g c =
    g.S.Sink.laws.joined (g.S.Sink.laws.joined
    (renamed g.S.Sink.takes c.put.ensures c.front_bytes.ensures.bytes)
    (renamed g.S.Sink.takes c.put_pairs.ensures (ap pairs_bytes (c.as_slice.ensures ∙ c.blocks-2.ensures))))
    c.put_u64.ensures
