-- The loop over a stream splits it into frames or finds its first fault, and a walk over the stream reads these frames.
-- The steps:
-- 1. The frames up to an offset split the bytes before it, and with the next frame they split the bytes before the next
--    offset (`step`).
-- 2. The loop ends at the first fault (`first_here`), or past the end, where the whole stream is split (`whole_of`).
-- 3. If a check fails, the stream does not split (`none_after`). The frames of a split lie in the stream
--    (`whole_within`, `split_stands`).
-- 4. A walk reads the frames of the split one by one (`walk_meets`, `walk_begins`).
use Rattle.std.proofs.Common.{◌≡◌, ℕ, ◌+◌, ◌-◌, ◌<◌, ◌≤◌, [], ◌∷◌, ◌++◌, zero, suc, min, List, length, take, drop, refl, sym, ap, ◌∙◌, subst, arith}
use Rattle.std.proofs.Common.{length-append, length-take, length-drop, append_assoc, drop-drop, take-append-drop, take_all, drop_at}
use Rattle.fv_base.proofs.Laws.{common_steps, AllByRecursion, take-add, take-append-add, IsFirstFault, Which}
use Rattle.fv_base.specs.declared.fault.Fault.{Fault}
use Rattle.fv_section.specs.Words.{FrameForm, BeginsFrame, Splits, SplitsFrom, frame_len, up_to_4, HasFrameAt, FramesWithin, frame_in, frames_from}
use Rattle.fv_section.specs.Words.{offset_after, HasFrames, frame_checks, FrameFault, IsFirstFrameFault}
use Rattle.fv_section.proofs.FrameLemmas.{length_begun, frame_reads, none_stands}
use Rattle.fv_section.proofs.StreamLemmas.{cut, from_least, one_more}

-- a frame that begins bytes also begins a first part of them that contains the frame
begins_less : (f : FrameForm) (b r : List ℕ) (k : ℕ) → BeginsFrame f b r → BeginsFrame f (take (frame_len f + k) b) (take k r)
begins_less f b r k h =
    let e : frame_len f ≡ length (h.head ++ f.body) = omega (
      arith,
      length_begun f b r h,
      ap length h.text,
      length-append h.head (f.body ++ r),
      length-append f.body r,
      length-append h.head f.body,
    ) in
    let flat : b ≡ (h.head ++ f.body) ++ r = h.text ∙ sym (append_assoc h.head f.body r) in
    record {
      head = h.head;
      is_header = h.is_header;
      text = ap (λ l. take (frame_len f + k) l) flat ∙ ap (λ n. take (n + k) ((h.head ++ f.body) ++ r)) e
          ∙ take-append-add (h.head ++ f.body) r k ∙ append_assoc h.head f.body (take k r);
    }

-- the frames up to an offset, and the frame there, split the bytes up to the next offset
pub step : (b : List ℕ) (fs : List FrameForm) (f : FrameForm) (t end at next : ℕ) → Splits fs t (take (up_to_4 end) b) → at ≡ up_to_4 end
    → HasFrameAt f at b → next ≡ f.offset + frame_len f
    → Splits (fs ++ f ∷ []) (min (up_to_4 next) (length b) - next) (take (up_to_4 next) b)
step b fs f t end at next split here s e =
    let k : ℕ = up_to_4 next - next in
    let r : List ℕ = s.rest in
    let x : List ℕ = take at b in
    let y : List ℕ = take (frame_len f + k) (drop at b) in
    let before : Splits fs t x = subst (λ n. Splits fs t (take n b)) (sym here) split in
    let lx : length x ≡ at = omega (arith, length-take at b, s.inside) in
    let whole : length (drop at b) ≡ frame_len f + length r = length_begun f (drop at b) r s.begins in
    let rest : length b ≡ at + length (drop at b) = omega (arith, length-drop at b, s.inside) in
    let end_is : next ≡ at + frame_len f = omega (arith, e, s.offset) in
    let lr : length (take k r) ≡ min (up_to_4 next) (length b) - next = omega (arith, length-take k r) in
    let joined : take (at + (frame_len f + k)) b ≡ x ++ y = take-add at (frame_len f + k) b in
    let n : up_to_4 next ≡ at + (frame_len f + k) = omega arith in
    let m : 0 + length x ≡ up_to_4 (0 + length x) = omega arith in
    let o : f.offset ≡ 0 + length x = omega (arith, s.offset) in
    let fit : 0 + length x + frame_len f + length (take k r) ≤ up_to_4 (0 + length x + frame_len f) = omega (arith, length-take k r) in
    let h = one_more 0 fs f t x y (take k r) before m (begins_less f (drop at b) r k s.begins) o fit in
    let P : List ℕ → Type 0 = λ l. Splits (fs ++ f ∷ []) (length (take k r)) l in
    let Q : ℕ → Type 0 = λ j. Splits (fs ++ f ∷ []) j (take (up_to_4 next) b) in
    subst Q lr (subst P (sym (ap (λ j. take j b) n ∙ joined)) h)

-- a frame at a place ends within the stream
pub stands_within : (f : FrameForm) (b : List ℕ) (at : ℕ) → HasFrameAt f at b → f.offset + frame_len f ≤ length b
stands_within f b at s = omega (arith, s.offset, s.inside, length_begun f (drop at b) s.rest s.begins, length-drop at b)

-- the fault of the place at which the loop stops is the first fault
pub first_here : (b : List ℕ) (fs : List FrameForm) (t end at : ℕ) (e : Fault) → Splits fs t (take (up_to_4 end) b) → at ≡ up_to_4 end
    → at < length b → IsFirstFault (frame_checks at (drop at b)) e → IsFirstFrameFault b e
first_here b fs t end at e split here inside fault = grind (arith, common_steps)

-- past the end, the frames split the stream
pub whole_of : (b : List ℕ) (fs : List FrameForm) (end : ℕ) → Splits fs (min (up_to_4 end) (length b) - end) (take (up_to_4 end) b)
    → length b ≤ up_to_4 end → Splits fs (length b - end) b
whole_of b fs end split past = grind (arith, common_steps, take_all)

-- ---- all splits

pub begins_of : (at : ℕ) (f : FrameForm) (fs : List FrameForm) (t : ℕ) (b : List ℕ) → SplitsFrom at (f ∷ fs) t b
    → (f.offset ≡ at) × (rest : List ℕ) × BeginsFrame f b rest
begins_of at f [] t b (rest, begun, o, l, fit) = (o, rest, begun)
begins_of at f (g ∷ fs) t b (filler, rest, begun, o, fill, more) = (o, filler ++ rest, begun)

-- the first frame of a split begins where the split begins
first_stands : (at : ℕ) (f : FrameForm) (fs : List FrameForm) (t : ℕ) (b : List ℕ) → SplitsFrom at (f ∷ fs) t (drop at b)
    → HasFrameAt f at b
first_stands at f fs t b split = grind (arith, common_steps, begins_of, from_least, length-drop)

-- if frames split the stream up to a place, and a check fails there, the whole stream does not split
pub none_after : (which : Which) (b : List ℕ) (e : Fault) (fs : List FrameForm) (t : ℕ) → FrameFault which b e → Splits fs t b → ⊥
none_after which b e fs t here split =
    let lx : length (take here.at b) ≡ here.at = omega (arith, length-take here.at b, here.inside) in
    let m : 0 + length (take here.at b) ≡ up_to_4 (0 + length (take here.at b)) = omega (arith, here.multiple, lx) in
    let ly : 0 < length (drop here.at b) = omega (arith, length-drop here.at b, here.inside) in
    let whole : Splits fs t (take here.at b ++ drop here.at b) = subst (λ l. Splits fs t l) (sym (take-append-drop here.at b)) split in
    let r = cut 0 here.frames fs here.tail t (take here.at b) (drop here.at b) here.split m whole ly in
    go r.0 (subst (λ k. SplitsFrom k r.0 t (drop here.at b)) (omega (arith, lx)) r.2) ly
  where
    go : (more : List FrameForm) → SplitsFrom here.at more t (drop here.at b) → 0 < length (drop here.at b) → ⊥
    go [] (z, n) l = omega (arith, ap length z, l)
    go (f ∷ more) h l = none_stands which here.at b e f here.fails (first_stands here.at f more t b h)

-- each frame of a stream ends within it
all_within : (at : ℕ) (fs : List FrameForm) (t : ℕ) (b : List ℕ) → SplitsFrom at fs t b → FramesWithin (at + length b) fs
all_within at [] t b h = tt
all_within at (f ∷ []) t b (rest, begun, o, n, fit) = (omega (arith, o, length_begun f b rest begun), tt)
all_within at (f ∷ g ∷ fs) t b (filler, rest, begun, o, fill, more) =
    let n = length_begun f b (filler ++ rest) begun in
    let behind = subst (λ (k : ℕ). FramesWithin k (g ∷ fs)) (omega (arith, n, length-append filler rest, fill))
    (all_within (up_to_4 (at + frame_len f)) (g ∷ fs) t rest more) in
    (omega (arith, o, n), behind)

pub whole_within : (fs : List FrameForm) (t : ℕ) (b : List ℕ) → Splits fs t b → FramesWithin (length b) fs
whole_within fs t b h = grind (arith, common_steps, all_within)

-- after the first frame of a stream, the other frames split the rest
pub others_split : (at : ℕ) (f : FrameForm) (fs : List FrameForm) (t : ℕ) (b : List ℕ) → SplitsFrom at (f ∷ fs) t (drop at b)
    → (u : ℕ) × SplitsFrom (up_to_4 (at + frame_len f)) fs u (drop (up_to_4 (at + frame_len f)) b)
others_split at f [] t b (rest, begun, o, l, fit) =
    let next : ℕ = up_to_4 (at + frame_len f) in
    let past : length (drop next b) ≡ 0 =
    omega (arith, length_begun f (drop at b) rest begun, length-drop at b, fit, l, length-drop next b) in
    (0, (none (drop next b) past, refl))
  where
    none : (l : List ℕ) → length l ≡ 0 → l ≡ []
    none [] e = refl
    none (x ∷ xs) e = absurd (omega (arith, e))
others_split at f (g ∷ fs) t b (filler, rest, begun, o, fill, more) =
    let x : List ℕ = begun.head ++ (f.body ++ filler) in
    let text : drop at b ≡ x ++ rest =
    begun.text ∙ ap (λ l. begun.head ++ l) (sym (append_assoc f.body filler rest))
    ∙ sym (append_assoc begun.head (f.body ++ filler) rest) in
    let long : at + length x ≡ up_to_4 (at + frame_len f) =
    omega (arith, length-append begun.head (f.body ++ filler), length-append f.body filler, begun.is_header.header_length, fill) in
    let next : rest ≡ drop (up_to_4 (at + frame_len f)) b =
    sym (drop_at x rest (length x) refl) ∙ ap (drop (length x)) (sym text) ∙ drop-drop (length x) at b ∙ ap (λ n. drop n b) long in
    (t, subst (λ l. SplitsFrom (up_to_4 (at + frame_len f)) (g ∷ fs) t l) next more)

-- each frame of a stream begins at its offset
from_stands : (at : ℕ) (fs : List FrameForm) (t : ℕ) (b : List ℕ) → SplitsFrom at fs t (drop at b)
    → AllByRecursion (λ f. HasFrameAt f f.offset b) fs
from_stands at [] t b split = tt
from_stands at (f ∷ fs) t b split =
    let stands = first_stands at f fs t b split in
    let rest = others_split at f fs t b split in
    (subst (λ n. HasFrameAt f n b) (sym stands.offset) stands, from_stands (up_to_4 (at + frame_len f)) fs rest.0 b rest.1)

pub split_stands : (fs : List FrameForm) (t : ℕ) (b : List ℕ) → Splits fs t b → AllByRecursion (λ f. HasFrameAt f f.offset b) fs
split_stands fs t b split = from_stands 0 fs t b split

-- ---- the frames that a walk reads

-- the frames of a stream are the frames that a walk over as many frames reads
walk_meets : (at : ℕ) (fs : List FrameForm) (t : ℕ) (b : List ℕ) → SplitsFrom at fs t (drop at b)
    → (frames_from (length fs) at b ≡ fs) × HasFrames (length fs) at b
walk_meets at [] t b split = (refl, tt)
walk_meets at (f ∷ fs) t b split =
    let stands = first_stands at f fs t b split in
    let is : frame_in at (drop at b) ≡ f =
    ap (λ n. frame_in n (drop at b)) (sym stands.offset) ∙ (frame_reads f (drop at b) stands.rest stands.begins).frame_is in
    let next : offset_after at b ≡ up_to_4 (at + frame_len f) = ap (λ g. up_to_4 (at + frame_len g)) is in
    let rest = others_split at f fs t b split in
    let more = walk_meets (up_to_4 (at + frame_len f)) fs rest.0 b rest.1 in
    rw (next, is) (ap (λ l. f ∷ l) more.0, (stands, more.1))

-- when a walk begins, all frames of the stream remain to be read
pub walk_begins : (b : List ℕ) (n t : ℕ) → (fs : List FrameForm) × Splits fs t b × (length fs ≡ n)
    → Splits (frames_from n 0 b) t b × HasFrames n 0 b
walk_begins b n t (fs, split, count) =
    let met = walk_meets 0 fs t b split in
    subst (λ k. Splits (frames_from k 0 b) t b × HasFrames k 0 b) count (subst (λ l. Splits l t b) (sym met.0) split, met.1)

-- a walk reads as many frames as are left
pub walk_count : (n at : ℕ) (b : List ℕ) → length (frames_from n at b) ≡ n
walk_count zero at b = refl
walk_count (suc n) at b = ap suc (walk_count n (offset_after at b) b)
