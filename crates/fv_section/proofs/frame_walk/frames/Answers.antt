use Rattle.std.proofs.lemmas.Grind.{common_steps}
use Rattle.std.proofs.Common.{◌≡◌, ◌<◌, ◌∷◌, ◌++◌, [], ℕ, List, length, sym, true≢false, arith}
use Rattle.fv_base.proofs.Laws.{err_is}
use Rattle.fv_section.specs.Words.{FrameForm, Splits}
use Rattle.fv_section.proofs.FrameWalkLemmas.{whole_within}
use Rattle.fv_section.proofs.StreamLemmas.{from_least}
use Rattle.fv_section.proofs.frame_walk.frames.Goals as goal

-- a stream with a frame has bytes
some_bytes : (fs : List FrameForm) (f : FrameForm) (more : List FrameForm) (t : ℕ) (b : List ℕ) → Splits (fs ++ f ∷ more) t b → 0 < length b
some_bytes [] f more t b split = omega (arith, from_least 0 f more t b split)
some_bytes (g ∷ fs) f more t b split = omega (arith, from_least 0 g (fs ++ f ∷ more) t b split)

-- a stream of which some frames are left has bytes
some_left : (fs : List FrameForm) (count t : ℕ) (b : List ℕ) → Splits fs t b → count ≡ length fs → (count ≡ 0 → ⊥) → 0 < length b
some_left [] count t b split is some = absurd (some is)
some_left (f ∷ fs) count t b split is some = omega (arith, from_least 0 f fs t b split)

pub returns-in_err-list-clause-some : goal.returns-in_err-list-clause-some
returns-in_err-list-clause-some c =
    let walk = c.in_ok-walk.walk in
    rw (err_is c.from_residual-in_err-list.ensures.1)
    (some_left walk.0 c.frames_left.result walk.1 c.args.stream.now c.in_ok-walk.ensures.found c.frames_left.ensures
    (λ none. true≢false (sym (c.in_err-list.ensures.succeeds none))))

pub returns-in_err-push-clause-some : goal.returns-in_err-push-clause-some
returns-in_err-push-clause-some c = grind (arith, common_steps, err_is, some_bytes)

pub returns-clause-lies : goal.returns-clause-lies
returns-clause-lies c = grind (arith, common_steps, whole_within)

pub loop-frame-preserved : goal.loop-frame-preserved
loop-frame-preserved c = grind (arith, common_steps)
