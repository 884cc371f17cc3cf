-- Bytes are a stream in at most one way, and a stream with one more frame is a stream. The steps:
-- 1. A stream with a frame has at least 4 bytes (`from_least`).
-- 2. If frames split the bytes up to an offset that is a multiple of 4, every split of these bytes and more begins with
--    these frames (`cut`).
-- 3. Compared frame by frame, two splits of the same bytes are equal (`one_split`).
-- 4. Frames that split the bytes up to a multiple of 4, and one more frame there, are a stream (`one_more`).
-- 5. The tail of a stream has at most 3 bytes (`tail_small`).
-- 6. If a list of bytes (`IsBytes`) begins with a frame, the frame's body and the rest are lists of bytes
--    (`begun_bytes`), and the body fits the form of the header (`fits`).
use Rattle.std.proofs.lemmas.Grind.{common_steps}
use Rattle.std.proofs.Common.{◌≡◌, ℕ, ◌+◌, ◌<◌, ◌≤◌, [], ◌∷◌, ◌++◌, List, length, refl, sym, ap, ◌∙◌, subst, arith, length-append, append_assoc}
use Rattle.std.proofs.Common.{Bool, true, false, drop, length-drop, length-take-le}
use Rattle.fv_base.proofs.Laws.{IsBytes, field, same_cut, bytes_back, bytes_drop, bytes_front, bytes_take, le_below}
use Rattle.fv_section.specs.Words.{FrameForm, BeginsFrame, SplitsFrom, frame_len, up_to_4, IsSectionHeader, StatesSize, section_header_len, FitsForm}
use Rattle.fv_section.proofs.FrameLemmas.{length_begun, size_least, one_frame, begins_more}

-- a stream with a frame has at least 4 bytes
pub from_least : (at : ℕ) (f : FrameForm) (fs : List FrameForm) (t : ℕ) (b : List ℕ) → SplitsFrom at (f ∷ fs) t b → 4 ≤ length b
from_least at f fs t b split = grind (arith, common_steps, length_begun, size_least)

-- if frames split the bytes up to an offset that is a multiple of 4, every split of these bytes and more begins with
-- these frames
pub cut : (at : ℕ) (fs gs : List FrameForm) (t u : ℕ) (x y : List ℕ) → SplitsFrom at fs t x → at + length x ≡ up_to_4 (at + length x)
    → SplitsFrom at gs u (x ++ y) → 0 < length y → (more : List FrameForm) × (gs ≡ fs ++ more) × SplitsFrom (at + length x) more u y
cut at [] gs t u x y (e, z) m hg ly =
    let n : at ≡ at + length x = omega (arith, ap length e) in
    let b : x ++ y ≡ y = ap (λ l. l ++ y) e in
    let h : SplitsFrom at gs u y = subst (λ l. SplitsFrom at gs u l) b hg in
    (gs, refl, subst (λ k. SplitsFrom k gs u y) n h)
cut at (f ∷ fs) [] t u x y hf m (e, z) ly = absurd (omega (arith, length-append x y, ap length e))
cut at (f ∷ []) (g ∷ []) t u x y (rest, begun, o, l, fit) m (rest', begun', o', l', fit') ly =
    let same = one_frame f g (x ++ y) (rest ++ y) rest' (o ∙ sym o') (begins_more f x rest y begun) begun' in
    absurd (omega (
      arith,
      length_begun f x rest begun,
      length_begun g (x ++ y) rest' begun',
      length-append x y,
      length-append rest y,
      ap length same.1,
      ap frame_len same.0,
    ))
cut at (f ∷ []) (g ∷ g' ∷ gs) t u x y (rest, begun, o, l, fit) m (filler', rest', begun', o', fill', more') ly =
    let same = one_frame f g (x ++ y) (rest ++ y) (filler' ++ rest') (o ∙ sym o') (begins_more f x rest y begun) begun' in
    let len = length_begun f x rest begun in
    let sizes = ap frame_len same.0 in
    let n : length rest ≡ length filler' = omega arith in
    let parts = same_cut rest filler' y rest' n same.1 in
    let place : up_to_4 (at + frame_len g) ≡ at + length x = omega arith in
    let go : SplitsFrom (up_to_4 (at + frame_len g)) (g' ∷ gs) u y =
    subst (λ l. SplitsFrom (up_to_4 (at + frame_len g)) (g' ∷ gs) u l) (sym parts.1) more' in
    (g' ∷ gs, ap (λ h. h ∷ g' ∷ gs) (sym same.0), subst (λ k. SplitsFrom k (g' ∷ gs) u y) place go)
cut at (f ∷ f' ∷ fs) (g ∷ []) t u x y (filler, rest, begun, o, fill, more) m (rest', begun', o', l', fit') ly =
    let same = one_frame f g (x ++ y) ((filler ++ rest) ++ y) rest' (o ∙ sym o') (begins_more f x (filler ++ rest) y begun) begun' in
    absurd (omega (arith, ap length same.1, length-append (filler ++ rest) y, length-append filler rest, ap frame_len same.0))
cut at (f ∷ f' ∷ fs) (g ∷ g' ∷ gs) t u x y (filler, rest, begun, o, fill, more) m (filler', rest', begun', o', fill', more') ly =
    let same =
    one_frame f g (x ++ y) ((filler ++ rest) ++ y) (filler' ++ rest') (o ∙ sym o') (begins_more f x (filler ++ rest) y begun) begun' in
    let sizes = ap frame_len same.0 in
    let n : length filler ≡ length filler' = omega arith in
    let parts = same_cut filler filler' (rest ++ y) rest' n (sym (append_assoc filler rest y) ∙ same.1) in
    let len = length_begun f x (filler ++ rest) begun in
    let lens = length-append filler rest in
    let place : up_to_4 (at + frame_len f) + length rest ≡ at + length x = omega arith in
    let place' : up_to_4 (at + frame_len g) ≡ up_to_4 (at + frame_len f) = omega arith in
    let m' : up_to_4 (at + frame_len f) + length rest ≡ up_to_4 (up_to_4 (at + frame_len f) + length rest) = omega arith in
    let h : SplitsFrom (up_to_4 (at + frame_len g)) (g' ∷ gs) u (rest ++ y) =
    subst (λ l. SplitsFrom (up_to_4 (at + frame_len g)) (g' ∷ gs) u l) (sym parts.1) more' in
    let h' : SplitsFrom (up_to_4 (at + frame_len f)) (g' ∷ gs) u (rest ++ y) = subst (λ k. SplitsFrom k (g' ∷ gs) u (rest ++ y)) place' h in
    let r = cut (up_to_4 (at + frame_len f)) (f' ∷ fs) (g' ∷ gs) t u rest y more m' h' ly in
    (r.0, ap (λ l. g ∷ l) r.1 ∙ ap (λ h. h ∷ f' ∷ (fs ++ r.0)) (sym same.0), subst (λ k. SplitsFrom k r.0 u y) place r.2)

-- bytes are split into frames in at most one way
pub one_split : (at : ℕ) (fs gs : List FrameForm) (t u : ℕ) (b : List ℕ) → SplitsFrom at fs t b → SplitsFrom at gs u b → (fs ≡ gs) × (t ≡ u)
one_split at [] [] t u b (e, z) (e', z') = (refl, z ∙ sym z')
one_split at [] (g ∷ gs) t u b (e, z) h = absurd (omega (arith, from_least at g gs u b h, ap length e))
one_split at (f ∷ fs) [] t u b h (e, z) = absurd (omega (arith, from_least at f fs t b h, ap length e))
one_split at (f ∷ []) (g ∷ []) t u b (rest, begun, o, l, fit) (rest', begun', o', l', fit') =
    let same = one_frame f g b rest rest' (o ∙ sym o') begun begun' in
    (ap (λ h. h ∷ []) same.0, sym l ∙ ap length same.1 ∙ l')
one_split at (f ∷ []) (g ∷ g' ∷ gs) t u b (rest, begun, o, l, fit) (filler', rest', begun', o', fill', more') =
    let same = one_frame f g b rest (filler' ++ rest') (o ∙ sym o') begun begun' in
    absurd (omega (arith, ap length same.1, length-append filler' rest', ap frame_len same.0, from_least _ g' gs u rest' more'))
one_split at (f ∷ f' ∷ fs) (g ∷ []) t u b (filler, rest, begun, o, fill, more) (rest', begun', o', l', fit') =
    let same = one_frame f g b (filler ++ rest) rest' (o ∙ sym o') begun begun' in
    absurd (omega (arith, ap length same.1, length-append filler rest, ap frame_len same.0, from_least _ f' fs t rest more))
one_split at (f ∷ f' ∷ fs) (g ∷ g' ∷ gs) t u b (filler, rest, begun, o, fill, more) (filler', rest', begun', o', fill', more') =
    let same = one_frame f g b (filler ++ rest) (filler' ++ rest') (o ∙ sym o') begun begun' in
    let sizes = ap frame_len same.0 in
    let n : length filler ≡ length filler' = omega arith in
    let parts = same_cut filler filler' rest rest' n same.1 in
    let place : up_to_4 (at + frame_len g) ≡ up_to_4 (at + frame_len f) = omega arith in
    let h : SplitsFrom (up_to_4 (at + frame_len g)) (g' ∷ gs) u rest =
    subst (λ l. SplitsFrom (up_to_4 (at + frame_len g)) (g' ∷ gs) u l) (sym parts.1) more' in
    let h' : SplitsFrom (up_to_4 (at + frame_len f)) (g' ∷ gs) u rest = subst (λ k. SplitsFrom k (g' ∷ gs) u rest) place h in
    let r = one_split (up_to_4 (at + frame_len f)) (f' ∷ fs) (g' ∷ gs) t u rest more h' in
    let p : f ≡ g = same.0 in
    let q : f' ∷ fs ≡ g' ∷ gs = r.0 in
    (cc, r.1)

-- frames that split the bytes up to a multiple of 4, and one more frame there, are a stream
pub one_more : (at : ℕ) (fs : List FrameForm) (f : FrameForm) (t : ℕ) (x y r : List ℕ) → SplitsFrom at fs t x
    → at + length x ≡ up_to_4 (at + length x) → BeginsFrame f y r → f.offset ≡ at + length x
    → at + length x + frame_len f + length r ≤ up_to_4 (at + length x + frame_len f) → SplitsFrom at (fs ++ f ∷ []) (length r) (x ++ y)
one_more at [] f t x y r (e, z) m begun o fit =
    let n : at ≡ at + length x = omega (arith, ap length e) in
    let b : y ≡ x ++ y = sym (ap (λ l. l ++ y) e) in
    let h : SplitsFrom (at + length x) (f ∷ []) (length r) y = (r, begun, o, refl, fit) in
    subst (λ l. SplitsFrom at (f ∷ []) (length r) l) b (subst (λ k. SplitsFrom k (f ∷ []) (length r) y) (sym n) h)
one_more at (g ∷ []) f t x y r (rest, begun', o', l', fit') m begun o fit =
    let len = length_begun g x rest begun' in
    let place : at + length x ≡ up_to_4 (at + frame_len g) = omega arith in
    let h : SplitsFrom (at + length x) (f ∷ []) (length r) y = (r, begun, o, refl, fit) in
    (rest, y, begins_more g x rest y begun', o', omega arith, subst (λ k. SplitsFrom k (f ∷ []) (length r) y) place h)
one_more at (g ∷ g' ∷ fs) f t x y r (filler, rest, begun', o', fill', more) m begun o fit =
    let len = length_begun g x (filler ++ rest) begun' in
    let lens = length-append filler rest in
    let place : at + length x ≡ up_to_4 (at + frame_len g) + length rest = omega arith in
    let m' : up_to_4 (at + frame_len g) + length rest ≡ up_to_4 (up_to_4 (at + frame_len g) + length rest) = omega arith in
    let fit2 :
    up_to_4 (at + frame_len g) + length rest + frame_len f + length r ≤ up_to_4 (up_to_4 (at + frame_len g) + length rest + frame_len f) =
    subst (λ k. k + frame_len f + length r ≤ up_to_4 (k + frame_len f)) place fit in
    let h = one_more (up_to_4 (at + frame_len g)) (g' ∷ fs) f t rest y r more m' begun (o ∙ place) fit2 in
    let b : BeginsFrame g (x ++ y) (filler ++ (rest ++ y)) =
    subst (λ l. BeginsFrame g (x ++ y) l) (append_assoc filler rest y) (begins_more g x (filler ++ rest) y begun') in
    (filler, rest ++ y, b, o', fill', h)

-- the tail of a stream has at most 3 bytes
pub tail_small : (at : ℕ) (fs : List FrameForm) (tail : ℕ) (b : List ℕ) → SplitsFrom at fs tail b → tail < 4
tail_small at [] tail b (e, z) = omega (arith, z)
tail_small at (f ∷ []) tail b (rest, begun, o, l, fit) = omega (arith, fit)
tail_small at (f ∷ g ∷ fs) tail b (filler, rest, begun, o, fill, more) = tail_small (up_to_4 (at + frame_len f)) (g ∷ fs) tail rest more

-- ---- the bytes of a stream

-- if a list of bytes begins with a frame, the frame's body and the rest are lists of bytes
pub begun_bytes : (f : FrameForm) (b rest : List ℕ) → IsBytes b → BeginsFrame f b rest → IsBytes f.body × IsBytes rest
begun_bytes f b rest bytes begun =
    let behind = bytes_back begun.head (f.body ++ rest) (subst IsBytes begun.text bytes) in
    (bytes_front f.body rest behind, bytes_back f.body rest behind)

-- ---- the forms of headers

-- if a header is a list of bytes, the size that it states fits its form
pub form_fits : (extended : Bool) (n : ℕ) (h : List ℕ) → length h ≡ section_header_len extended
    → StatesSize extended (section_header_len extended + n) h
    → IsBytes h → FitsForm extended n
form_fits false n h long (is, other) bytes =
    let three : length (field 0 3 h) ≡ 3 = length-take-le 3 h (omega (arith, long)) in
    omega (arith, is, other, le_below 3 (field 0 3 h) (bytes_take 3 h bytes) three)
form_fits true n h long (full, is) bytes =
    let four : length (field 4 4 h) ≡ 4 = length-take-le 4 (drop 4 h) (omega (arith, length-drop 4 h, long)) in
    omega (arith, is, le_below 4 (field 4 4 h) (bytes_take 4 (drop 4 h) (bytes_drop 4 h bytes)) four)

-- if a section header for a body of n bytes is a list of bytes, the body fits its form
pub fits_form : (extended : Bool) (kind n : ℕ) (h : List ℕ) → IsBytes h → IsSectionHeader extended kind n h → FitsForm extended n
fits_form extended kind n h bytes is = form_fits extended n h is.header_length is.states bytes

-- if a list of bytes begins with a frame, the frame's body fits the form of its header
pub fits : (f : FrameForm) (b rest : List ℕ) → IsBytes b → BeginsFrame f b rest → FitsForm f.extended (length f.body)
fits f b rest bytes begun =
    fits_form f.extended f.kind (length f.body) begun.head (bytes_front begun.head (f.body ++ rest) (subst IsBytes begun.text bytes))
    begun.is_header
