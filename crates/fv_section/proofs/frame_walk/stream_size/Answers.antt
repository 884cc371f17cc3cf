use Rattle.std.proofs.lemmas.Grind.{common_steps}
use Rattle.std.proofs.Common.{◌++◌, ◌∷◌, [], length-append, refl, arith}
use Rattle.fv_base.proofs.Laws.{err_is}
use Rattle.fv_section.proofs.FrameLemmas.{size_least}
use Rattle.fv_section.proofs.FrameWalkLemmas.{first_here, stands_within, step, whole_of}
use Rattle.fv_section.proofs.StreamLemmas.{tail_small}
use Rattle.fv_section.specs.Words.{FrameForm, frame_form}
use Rattle.fv_section.proofs.frame_walk.stream_size.Goals as goal

pub loop-frame-init : goal.loop-frame-init
loop-frame-init c = record { frames = ([], (refl, omega arith), refl); within = omega arith; few = omega arith }

pub end_of-end-requires : goal.end_of-end-requires
end_of-end-requires c =
    omega (arith, stands_within (frame_form c.in-Some.frame) c.args.stream.now _ (rw c.in-Some.is at c.in_ok-frame.ensures.found))

pub loop-frame-preserved : goal.loop-frame-preserved
loop-frame-preserved c =
    let f : FrameForm = frame_form c.in-Some.frame in
    let stands = rw c.in-Some.is at c.in_ok-frame.ensures.found in
    let w = c.loop-frame.invariant.frames in
    let next = c.end_of-end.ensures in
    record {
      frames = (
        w.0 ++ f ∷ [],
        step c.args.stream.now w.0 f _ c.loop-frame.end c.up_to_4.result c.end_of-end.result w.1 c.up_to_4.ensures stands next,
        omega (arith, length-append w.0 (f ∷ []), w.2),
      );
      within = omega (arith, next, stands_within f c.args.stream.now c.up_to_4.result stands);
      few = omega (arith, c.loop-frame.invariant.few, next, stands.offset, c.up_to_4.ensures, size_least f);
    }

pub loop-frame-smaller : goal.loop-frame-smaller
loop-frame-smaller c = grind (arith, common_steps, size_least)

pub returns-clause-found : goal.returns-clause-found
returns-clause-found c = grind (arith, common_steps, whole_of)

pub overflow_cast-result : goal.overflow_cast-result
overflow_cast-result c = grind (arith, common_steps, whole_of, tail_small)

pub returns-in_err-frame-clause-first : goal.returns-in_err-frame-clause-first
returns-in_err-frame-clause-first c =
    let w = c.loop-frame.invariant.frames in
    rw (err_is c.from_residual.ensures.1) (first_here c.args.stream.now w.0 _ c.loop-frame.end c.up_to_4.result _ w.1 c.up_to_4.ensures
    c.in_err-frame.ensures.place.1 c.in_err-frame.ensures.first)

pub returns-in_err-frame-clause-bound : goal.returns-in_err-frame-clause-bound
returns-in_err-frame-clause-bound c = rw (err_is c.from_residual.ensures.1) (omega (arith, c.in_err-frame.ensures.place))
