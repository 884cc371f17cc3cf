use Rattle.std.proofs.Common.{sym, ap, ◌∙◌, length}
use Rattle.fv_section.proofs.FrameWalkLemmas.{walk_count}
use Rattle.fv_section.proofs.frame_walk.FrameWalk.frames_left.Goals as goal

pub returns : goal.returns
returns c =
    sym (walk_count c.self.inside.left c.self.inside.at c.self.inside.stream.now) ∙ ap (λ v. length v.0) c.self.view_is
