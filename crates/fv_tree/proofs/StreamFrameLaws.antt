-- The frames and the tail that `frames_of` and `tail_of` read from the bytes of a stream are the frames and the tail
-- into which the stream splits (`Splits`), except that each frame has the offset 0. The steps:
-- 1. Fewer bytes are left after each frame (`fewer`). So the limit of `starts_by` does not matter if it is at least the
--    number of bytes (`starts_same`). A stream begins with its first frame, which is followed by the frames of the
--    bytes after it (`first_start`), and fewer than 4 bytes contain no frame (`no_start`).
-- 2. Bytes that split into frames begin with the first of these frames (`first_is`), and the bytes that are left after
--    it split into the other frames (`after_last`, `after_more`). So the frames that are read are the frames of the
--    split (`starts_meet`).
-- 3. The same is true of a whole stream (`split_is`).
use Rattle.std.proofs.Common.{◌≡◌, ℕ, zero, suc, ◌+◌, ◌<◌, ◌≤◌, List, [], ◌∷◌, ◌++◌, length, drop, map, refl, sym, ap, ◌∙◌, arith, true, false}
use Rattle.std.proofs.Common.{length-append, append_assoc, length-drop, ⊎_elim}
use Rattle.fv_base.proofs.Laws.{bytes_drop, common_steps, nat_lt, AllByRecursion, IsBytes, drop_at, length-map, cases_lt, le-ltb, lt-ltb}
use Rattle.fv_section.specs.Words.{BeginsFrame, FrameForm, HasFrameAt, Splits, SplitsFrom, after_first, after_size, frame_in, frame_len, up_to_4}
use Rattle.fv_section.proofs.Laws.{frame_reads, from_least, length_begun, size_least}
use Rattle.fv_tree.specs.Words.{BeginsFramed, frames_of, starts_by, starts_of}

-- ---- the number of steps

-- the bytes that are left after a frame of n bytes follow its filler, or the frame if no bytes follow the filler
by_after : (P : List ℕ → Type 0) (n : ℕ) (r : List ℕ) → (nat_lt (up_to_4 n) (length r) ≡ true → P (drop (up_to_4 n) r))
    → (nat_lt (up_to_4 n) (length r) ≡ false → P (drop n r)) → P (after_size n r)
by_after P n r more last = grind (arith, common_steps) steps 150000

-- fewer bytes are left after a frame
pub fewer : (r : List ℕ) → 4 ≤ length r → length (after_first r) < length r
fewer r least = grind (arith, common_steps, by_after, size_least, length-drop) steps 150000

-- fewer than 4 bytes contain no frame
few_starts : (n : ℕ) (r : List ℕ) → length r < 4 → starts_by n r ≡ ([], r)
few_starts zero r few = refl
few_starts (suc n) r few = rw (lt-ltb (length r) 4 few) refl

-- at least 4 bytes begin with a frame, which is followed by the frames of the bytes after it
more_starts : (n : ℕ) (r : List ℕ) → 4 ≤ length r → starts_by (suc n) r ≡ (r ∷ (starts_by n (after_first r)).0, (starts_by n (after_first r)).1)
more_starts n r least = rw (le-ltb (length r) 4 least) refl

-- the limit of the number of frames does not matter if it is at least the number of bytes
starts_same : (n m : ℕ) (r : List ℕ) → length r ≤ n → length r ≤ m → starts_by n r ≡ starts_by m r
starts_same zero m r less less' = sym (few_starts m r (omega (arith, less)))
starts_same (suc n) zero r less less' = few_starts (suc n) r (omega (arith, less'))
starts_same (suc n) (suc m) r less less' =
    ⊎_elim (λ few. few_starts (suc n) r few ∙ sym (few_starts (suc m) r few)) (λ least.
    let same = starts_same n m (after_first r) (omega (arith, fewer r least, less)) (omega (arith, fewer r least, less')) in
    rw (more_starts n r least, more_starts m r least, same) refl) (cases_lt (length r) 4)

-- the same for `starts_of`, which has no limit
pub no_start : (r : List ℕ) → length r < 4 → starts_of r ≡ ([], r)
no_start r few = few_starts (length r) r few

pub first_start : (r : List ℕ) → 4 ≤ length r → starts_of r ≡ (r ∷ (starts_of (after_first r)).0, (starts_of (after_first r)).1)
first_start r least = grind (arith, common_steps, starts_same, more_starts, fewer) steps 150000

-- a stream has no more frames than bytes
few_by : (n : ℕ) (r : List ℕ) → length (starts_by n r).0 ≤ length r
few_by zero r = omega arith
few_by (suc n) r =
    ⊎_elim (λ few. rw (few_starts (suc n) r few) (omega arith))
    (λ least. rw (more_starts n r least) (omega (arith, few_by n (after_first r), fewer r least))) (cases_lt (length r) 4)

pub few_frames : (r : List ℕ) → length (frames_of r) ≤ length r
few_frames r = omega (arith, length-map (starts_of r).0 (frame_in 0), few_by (length r) r)

-- ---- the frames of a split

-- the frame with the offset 0
abbrev pub unplaced : FrameForm → FrameForm
unplaced f = record { offset = 0; kind = f.kind; extended = f.extended; body = f.body }

-- bytes that begin with a frame are read as this frame, with the offset 0
first_is : (f : FrameForm) (r rest : List ℕ) → BeginsFrame f r rest → (frame_in 0 r ≡ unplaced f) × BeginsFramed r
first_is f r rest begun =
    let is : frame_in 0 r ≡ unplaced f = ap unplaced (frame_reads f r rest begun).frame_is in
    let here : HasFrameAt (unplaced f) 0 r = record {
      offset = refl;
      inside = omega (arith, length_begun f r rest begun, size_least f);
      rest = rest;
      begins = record { head = begun.head; is_header = begun.is_header; text = begun.text };
    } in
    (is, rw is here)

-- if bytes begin with a frame and its filler, the bytes after the frame and the filler are the rest
cut_filler : (f : FrameForm) (r filler rest : List ℕ) (n : ℕ) → BeginsFrame f r (filler ++ rest) → n ≡ frame_len f + length filler
    → drop n r ≡ rest
cut_filler f r filler rest n begun is =
    let x : List ℕ = begun.head ++ (f.body ++ filler) in
    let text : r ≡ x ++ rest = simp append_assoc begun.text in
    rw text (drop_at x rest n (omega (arith, is, length-append {A = ℕ}, begun.is_header.header_length)))

-- the bytes that are left after the last frame are the tail
after_last : (f : FrameForm) (r rest : List ℕ) → BeginsFrame f r rest → frame_len f + length rest ≤ up_to_4 (frame_len f) → after_first r ≡ rest
after_last f r rest begun fit =
    let follows = cut_filler f r [] rest (frame_len f) begun (omega arith) in
    grind (arith, common_steps, (first_is f r rest begun).0, follows, length_begun f r rest begun)

-- the bytes that are left after any other frame begin with the next frame
after_more : (f : FrameForm) (r filler rest : List ℕ) → BeginsFrame f r (filler ++ rest) → frame_len f + length filler ≡ up_to_4 (frame_len f)
    → 0 < length rest → after_first r ≡ rest
after_more f r filler rest begun fill some =
    let follows = cut_filler f r filler rest _ begun (sym fill) in
    grind (arith, common_steps, (first_is f r _ begun).0, follows, length_begun f r _ begun, length-append filler rest)

-- the frames that were read are the frames fs, with the offset 0, and t bytes are left after them; and each of these
-- frames is at the start of the bytes from which it was read
pub record Meets (fs : List FrameForm) (t : ℕ) (starts : List (List ℕ) × List ℕ) : Type 0 where
  pub frames : map (frame_in 0) starts.0 ≡ map unplaced fs
  pub tail : length starts.1 ≡ t
  pub framed : AllByRecursion BeginsFramed starts.0

-- fewer than 4 bytes are read as no frames, and are the tail
meets_none : (t : ℕ) (r : List ℕ) → length r < 4 → length r ≡ t → Meets [] t (starts_of r)
meets_none t r few is = rw (no_start r few) (record { frames = refl; tail = is; framed = tt })

-- if the bytes after a frame are read as the frames fs, all bytes are read as the frame and fs
meets_one : (f : FrameForm) (fs : List FrameForm) (t : ℕ) (r behind : List ℕ) → BeginsFrame f r behind → Meets fs t (starts_of (after_first r))
    → Meets (f ∷ fs) t (starts_of r)
meets_one f fs t r behind begun more =
    grind (arith, common_steps, first_start, first_is f r behind begun, length_begun f r behind begun, size_least f)

-- bytes that split into frames are read as these frames; `at` is the offset of the bytes in their stream
starts_meet : (at : ℕ) (fs : List FrameForm) (t : ℕ) (r : List ℕ) → at ≡ up_to_4 at → SplitsFrom at fs t r → Meets fs t (starts_of r)
starts_meet at [] t r multiple (none, z) = meets_none t r (omega (arith, ap length none)) (omega (arith, ap length none, z))
starts_meet at (f ∷ []) t r multiple (rest, begun, o, l, fit) =
    meets_one f [] t r rest begun (rw (after_last f r rest begun (omega (arith, multiple, l, fit))) (meets_none t rest (omega (arith, l, fit)) l))
starts_meet at (f ∷ g ∷ fs) t r multiple (filler, rest, begun, o, fill, more) =
    let some = from_least (up_to_4 (at + frame_len f)) g fs t rest more in
    meets_one f (g ∷ fs) t r (filler ++ rest) begun (rw (after_more f r filler rest begun (omega (arith, multiple, fill)) (omega (arith, some)))
    (starts_meet (up_to_4 (at + frame_len f)) (g ∷ fs) t rest (omega arith) more))

-- a stream is read as the frames and the tail of its split
pub split_is : (fs : List FrameForm) (t : ℕ) (b : List ℕ) → Splits fs t b → Meets fs t (starts_of b)
split_is fs t b split = starts_meet 0 fs t b (omega arith) split

-- if all items of a list are below 256, the items that are left after its first frame are below 256
pub bytes_after : (r : List ℕ) → IsBytes r → IsBytes (after_first r)
bytes_after r small = grind (arith, common_steps, by_after, bytes_drop) steps 150000
