use Rattle.fv_text.specs.inner.SinkAdapterLaws.{gathered_joined}
use Rattle.fv_text.proofs.gathering.GatheringSinkSink.put.Goals as goal

pub returns-then-bytes-le-ROOM : goal.returns-then-bytes-le-ROOM
returns-then-bytes-le-ROOM g c =
    gathered_joined g.S.Sink.takes g.S.Sink.laws _ _ _ _ _ _ _ _ c.make_room.ensures.takes c.keep.ensures
