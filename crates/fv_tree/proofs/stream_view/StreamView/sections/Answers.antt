use Rattle.fv_tree.proofs.StreamInputLaws.{view_kept}
use Rattle.fv_tree.proofs.stream_view.StreamView.sections.Goals as goal

pub of-requires : goal.of-requires
of-requires c = rw c.as_slice.ensures.value (view_kept c.self.inside.bytes.now c.self.inside.volumes.items c.self.invariant)
