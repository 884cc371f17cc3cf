use Rattle.std.proofs.Common.{ap, ◌∙◌, arith, drop}
use Rattle.std.proofs.lemmas.List.{length-drop, take_all}
use Rattle.std.proofs.lemmas.Grind.{common_steps}
use Rattle.fv_section.specs.Words.{frame_in}
use Rattle.fv_section.proofs.frame_walk.frame_at.Goals as goal

pub end_of-requires : goal.end_of-requires
end_of-requires c = grind (arith, common_steps)

pub frame_in-frame-requires-clause-header : goal.frame_in-frame-requires-clause-header
frame_in-frame-requires-clause-header c = grind (arith, common_steps)

pub frame_in-frame-requires-clause-least : goal.frame_in-frame-requires-clause-least
frame_in-frame-requires-clause-least c = grind (arith, common_steps)

pub frame_in-frame-requires-clause-within : goal.frame_in-frame-requires-clause-within
frame_in-frame-requires-clause-within c = grind (arith, common_steps)

pub up_to_4-next-requires : goal.up_to_4-next-requires
up_to_4-next-requires c = grind (arith, common_steps)

pub returns-clause-frame : goal.returns-clause-frame
returns-clause-frame c =
    c.frame_in-frame.ensures
    ∙ ap (frame_in c.args.at) (take_all _ (drop c.args.at c.args.stream.now) (omega (arith, length-drop c.args.at c.args.stream.now)))
