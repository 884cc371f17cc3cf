-- A stream has at most one first fault, which is within its bytes or at their end. The steps:
-- 1. The first fault is within the bytes, or at their end (`frame_within`), and is a fault in the sense of `Any`
--    (`frame_fails`).
-- 2. A first fault is not before an offset up to which the stream splits into frames (`frame_later`), so a stream has
--    at most one first fault (`one_frame_fault`).
use Rattle.std.proofs.Common.{◌≡◌, ◌≤◌, ◌<◌, ℕ, ◌+◌, ◌-◌, [], ◌∷◌, ◌++◌, List, length, take, drop, ap, subst, arith, take-append-drop, length-take-le}
use Rattle.fv_base.proofs.Laws.{common_steps, Any, First, IsFirstFault, any_fails, first_among, one_fault, same_place, some_between, take_past}
use Rattle.fv_base.specs.declared.fault.Fault.{Fault}
use Rattle.fv_section.specs.Words.{FrameFault, IsFirstFrameFault, frame_checks, FrameForm, BeginsFrame, SplitsFrom, Splits}
use Rattle.fv_section.proofs.FrameLemmas.{begins_more, none_stands}
use Rattle.fv_section.proofs.FrameWalkLemmas.{begins_of}
use Rattle.fv_section.proofs.StreamLemmas.{cut}

-- ---- the offset of the fault

pub frame_within : (b : List ℕ) (f : Fault) → IsFirstFrameFault b f → f.place.offset ≤ length b
frame_within b f first =
    let low : first.at ≤ length b = omega (arith, first.inside) in
    first_among (λ (g : Fault). g.place.offset ≤ length b) (frame_checks first.at (drop first.at b)) f (low, (low, tt)) first.fails

pub frame_fails : (b : List ℕ) (f : Fault) → FrameFault First b f → FrameFault Any b f
frame_fails b f first = grind (arith, common_steps, any_fails)

-- ---- one first fault

-- a first fault is not before an offset up to which the stream splits into frames
frame_later : (b : List ℕ) (f g : Fault) → (x : IsFirstFrameFault b f) → (y : IsFirstFrameFault b g) → x.at < y.at → ⊥
frame_later b f g x y l =
    let r = cut 0 x.frames y.frames x.tail y.tail (take x.at b) part x.split (omega (arith, place, x.multiple)) whole (some_between b x.at y.at l y.inside) in
    go r.0 (subst (λ (k : ℕ). SplitsFrom k r.0 y.tail part) place r.2)
  where
    part : List ℕ
    part = take (y.at - x.at) (drop x.at b)

    beyond : List ℕ
    beyond = drop (y.at - x.at) (drop x.at b)

    place : 0 + length (take x.at b) ≡ x.at
    place = omega (arith, length-take-le x.at b (omega (arith, x.inside)))

    whole : Splits y.frames y.tail (take x.at b ++ part)
    whole = subst (λ (c : List ℕ). Splits y.frames y.tail c) (take_past b x.at y.at l) y.split

    go : (more : List FrameForm) → SplitsFrom x.at more y.tail part → ⊥
    go [] (z, n) = omega (arith, ap length z, some_between b x.at y.at l y.inside)
    go (h ∷ hs) from =
        let begun = begins_of x.at h hs y.tail part from in
        let there = begins_more h part begun.1 beyond begun.2 in
        none_stands First x.at b f h x.fails
        (record {
          offset = begun.0;
          inside = x.inside;
          rest = begun.1 ++ beyond;
          begins = subst (λ (c : List ℕ). BeginsFrame h c (begun.1 ++ beyond)) (take-append-drop (y.at - x.at) (drop x.at b)) there;
        })

-- a stream has at most one first fault of its frames
pub one_frame_fault : (b : List ℕ) (f g : Fault) → IsFirstFrameFault b f → IsFirstFrameFault b g → f ≡ g
one_frame_fault b f g x y =
    let at : x.at ≡ y.at = same_place x.at y.at (frame_later b f g x y) (frame_later b g f y x) in
    one_fault (frame_checks y.at (drop y.at b)) f g
    (subst (λ (k : ℕ). IsFirstFault (frame_checks k (drop k b)) f) at x.fails) y.fails
