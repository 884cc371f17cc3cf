-- Bodies that differ in marks of fixed files only have one copy without these marks. The steps:
-- 1. Two parts that differ in a mark only are the same without their marks (`same_without`).
-- 2. So the cells of the copy of one body are the cells of the other body without its marks (`other_lost`).
-- 3. A body has one copy without its marks, cell by cell (`one_lost`).
-- 4. Parts that are the same without their marks differ in a mark only (`differs_back`), so bodies that have one copy
--    differ in marks only (`differ_of`).
use Rattle.std.proofs.Common.{◌≡◌, ◌≤◌, ◌<◌, ℕ, ◌+◌, [], ◌∷◌, ◌++◌, ◌⊎◌, ◌&&◌}
use Rattle.fv_base.proofs.Laws.{List, length, take, drop, refl, sym, ap, ◌∙◌, subst, arith, inl, inr, slice_index, Bool, true, false, same_cut}
use Rattle.fv_base.proofs.Laws.{append-nil, length-append, take-append-drop, take_at, drop_at, and_split, IsBytes, bytes_front, bytes_back}
use Rattle.std.proofs.lemmas.Bool.{cases_Bool, eqb-false, not-true}
use Rattle.std.proofs.lemmas.Grind.{same_number_lists}
use Rattle.std.proofs.Common.{eqb-true, ◌==◌, ◌-◌, ◌%◌}
use Rattle.fv_base.specs.declared.flash.FileSystem.{FileSystem}
use Rattle.fv_base.specs.declared.flash.Polarity.{Polarity}
use Rattle.fv_file.specs.Words.{DiffersInMark, DifferInMarks, TilesUnmarked, is_marked, without_mark}
use Rattle.fv_file.specs.Words.{CellForm, IsCell, attributes_at, cell_len, is_fixed, is_free, unmarked}
use Rattle.fv_file.proofs.CellPartLemmas.{cell_least, cell_span, not_empty}
use Rattle.fv_file.proofs.CellVerdictLemmas.{one_cell}
use Rattle.fv_file.proofs.LostMarkLemmas.{drop_without, length-without, marked_is, marked_long, take_without, unmarked_is}
use Rattle.fv_file.proofs.MarkedFileLemmas.{attributes, header_sum, least, length-unmarked, moves, other}

-- ---- 1. two parts

-- a part whose mark was removed has no mark
unmarked_moves : (p : Polarity) (x : List ℕ) → is_marked p x ≡ true → is_marked p (unmarked 0 x) ≡ false
unmarked_moves p x marked =
    let fixed : is_fixed (attributes_at x) ≡ true = (and_split _ (is_fixed (attributes_at x)) marked).1 in
    not_last _ _ (not-true _ (moves x (marked_long p x marked) fixed))
  where
    not_last : (a b : Bool) → b ≡ false → (a && b) ≡ false
    not_last false b e = refl
    not_last true b e = e

pub same_without : (p : Polarity) (x y : List ℕ) → DiffersInMark p x y → (without_mark p y ≡ without_mark p x) × (length y ≡ length x)
same_without p x y (inl same) = (ap (without_mark p) (sym same), ap length (sym same))
same_without p x y (inr (inl (marked, is))) = (
  ap (without_mark p) is ∙ unmarked_is p (unmarked 0 x) (unmarked_moves p x marked) ∙ sym (marked_is p x marked),
  ap length is ∙ length-unmarked 0 x,
)
same_without p x y (inr (inr (marked, is))) = (
  marked_is p y marked ∙ sym (ap (without_mark p) is ∙ unmarked_is p (unmarked 0 y) (unmarked_moves p y marked)),
  sym (ap length is ∙ length-unmarked 0 y),
)

-- ---- 2. two bodies

pub other_lost : (s : FileSystem) (p : Polarity) (at : ℕ) (cs : List CellForm) (a b o : List ℕ) → TilesUnmarked s p at cs a o
    → DifferInMarks p cs a b → TilesUnmarked s p at cs b o
other_lost s p at [] a b o (none, none') (nil, nil') = (nil', none')
other_lost s p at (c ∷ cs) a b o (u, w, v, e, e', is, place, last, more) (x, y, rest, others, f, f', long, differ, behind) =
    let size : length x ≡ length u = long ∙ cell_span s p c (without_mark p u) is ∙ length-without p u in
    let cut = same_cut x u rest w size (sym f ∙ e) in
    let front : x ≡ u = cut.0 in
    let back : rest ≡ w = cut.1 in
    let (same, len) = same_without p u y (subst (λ (l : List ℕ). DiffersInMark p l y) front differ) in
    let next : TilesUnmarked s p (at + length y) cs others v =
    subst (λ (n : ℕ). TilesUnmarked s p (at + n) cs others v) (sym len)
    (other_lost s p (at + length u) cs w others v more (subst (λ (l : List ℕ). DifferInMarks p cs l others) back behind)) in
    (y, others, v, f', e' ∙ ap (λ (l : List ℕ). l ++ v) (sym same), subst (IsCell s p c) (sym same) is, place, last, next)

-- ---- 3. one copy

-- the first part without its mark, and the other bytes, are all the bytes without the first mark
whole_without : (p : Polarity) (u w : List ℕ) → (23 < length u) ⊎ (w ≡ []) → without_mark p u ++ w ≡ without_mark p (u ++ w)
whole_without p u w (inl long) =
    let n : ℕ = length u in
    let front : take n (without_mark p (u ++ w)) ≡ without_mark p u =
    take_without p n (u ++ w) long ∙ ap (without_mark p) (take_at u w n refl) in
    let back : drop n (without_mark p (u ++ w)) ≡ w = drop_without p n (u ++ w) long ∙ drop_at u w n refl in
    ap (λ (l : List ℕ). l ++ w) (sym front) ∙ ap (λ (l : List ℕ). take n (without_mark p (u ++ w)) ++ l) (sym back)
    ∙ take-append-drop n (without_mark p (u ++ w))
whole_without p u w (inr none) =
    ap (λ (l : List ℕ). without_mark p u ++ l) none ∙ append-nil (without_mark p u)
    ∙ ap (without_mark p) (sym (append-nil u) ∙ ap (λ (l : List ℕ). u ++ l) (sym none))

-- after a free cell, no bytes are left
none_left : (s : FileSystem) (p : Polarity) (at : ℕ) (cs : List CellForm) (w v : List ℕ) → cs ≡ [] → TilesUnmarked s p at cs w v → w ≡ []
none_left s p at [] w v e (none, none') = none
none_left s p at (c ∷ cs) w v e more = cc

long_or_last : (s : FileSystem) (p : Polarity) (at : ℕ) (c : CellForm) (cs : List CellForm) (u w v : List ℕ) → IsCell s p c (without_mark p u)
    → (is_free c ≡ true → cs ≡ []) → TilesUnmarked s p at cs w v → (23 < length u) ⊎ (w ≡ [])
long_or_last s p at c cs u w v is last more = go (is_free c) refl where
  go : (t : Bool) → is_free c ≡ t → (23 < length u) ⊎ (w ≡ [])
  go true free = inr (none_left s p at cs w v (last free) more)
  go false used = inl (omega (arith, cell_least s p c (without_mark p u) is used, length-without p u))

pub one_lost : (s : FileSystem) (p : Polarity) (at : ℕ) (cs ds : List CellForm) (b o x : List ℕ) → TilesUnmarked s p at cs b o
    → TilesUnmarked s p at ds b x → x ≡ o
one_lost s p at [] [] b o x (none, o_is) (none', x_is) = x_is ∙ sym o_is
one_lost s p at [] (d ∷ ds) b o x (none, o_is) (u, w, v, e, e', is, place, last, more) =
    absurd (omega (arith, not_empty s p d (without_mark p u) is, length-without p u, ap length e, length-append u w, ap length none))
one_lost s p at (c ∷ cs) [] b o x (u, w, v, e, e', is, place, last, more) (none, x_is) =
    absurd (omega (arith, not_empty s p c (without_mark p u) is, length-without p u, ap length e, length-append u w, ap length none))
one_lost s p at (c ∷ cs) (d ∷ ds) b o x (u, w, v, e, e', is, place, last, more) (u', w', v', f, f', is', place', last', more') =
    let whole : without_mark p u ++ w ≡ without_mark p u' ++ w' =
    whole_without p u w (long_or_last s p _ c cs u w v is last more) ∙ ap (without_mark p) (sym e ∙ f)
    ∙ sym (whole_without p u' w' (long_or_last s p _ d ds u' w' v' is' last' more')) in
    let one = one_cell s p c d (without_mark p u) (without_mark p u') w w' is is' (place ∙ sym place')
    (λ free. none_left s p _ cs w v (last free) more) (λ free. none_left s p _ ds w' v' (last' free) more') whole in
    let long : length u ≡ length u' = sym (length-without p u) ∙ one.1 ∙ length-without p u' in
    let cut = same_cut u u' w w' long (sym e ∙ f) in
    let front : u ≡ u' = cut.0 in
    let back : w ≡ w' = cut.1 in
    let rest : TilesUnmarked s p (at + length u) ds w v' =
    subst (λ (n : ℕ). TilesUnmarked s p (at + n) ds w v') (sym long) (subst (λ (l : List ℕ). TilesUnmarked s p (at + length u') ds l v') (sym back) more') in
    let behind : v' ≡ v = one_lost s p (at + length u) cs ds w v v' more rest in
    f' ∙ ap (λ (l : List ℕ). without_mark p l ++ v') (sym front) ∙ ap (λ (l : List ℕ). without_mark p u ++ l) behind ∙ sym e'

-- ---- 4. bodies that have one copy

-- bytes of a fixed file follow from the bytes without its mark
same_before : (x y : List ℕ) → 24 ≤ length x → is_fixed (attributes_at x) ≡ true → 24 ≤ length y → is_fixed (attributes_at y) ≡ true
    → IsBytes x → IsBytes y → unmarked 0 x ≡ unmarked 0 y → x ≡ y
same_before x y long fixed long' fixed' small small' same =
    same_number_lists x y (sym (length-unmarked 0 x) ∙ ap length same ∙ length-unmarked 0 y) (λ k inside. by_place k)
  where
    at : (k : ℕ) → slice_index (unmarked 0 x) k ≡ slice_index (unmarked 0 y) k
    at k = ap (λ (l : List ℕ). slice_index l k) same

    bits : slice_index x 19 ≡ slice_index y 19
    bits =
        let less : slice_index x 19 - 4 ≡ slice_index y 19 - 4 = sym (attributes x long fixed) ∙ at 19 ∙ attributes y long' fixed' in
        omega (arith, less, least x long fixed, least y long' fixed')

    sums : slice_index x 16 ≡ slice_index y 16
    sums =
        let more : (slice_index x 16 + 4) % 256 ≡ (slice_index y 16 + 4) % 256 = sym (header_sum x long fixed) ∙ at 16 ∙ header_sum y long' fixed' in
        omega (arith, more, small 16, small' 16)

    by_place : (k : ℕ) → slice_index x k ≡ slice_index y k
    by_place k = elim (cases_Bool (k == 16)) [
      | inl is ↦ rw (eqb-true k 16 is) sums
      | inr far ↦ elim (cases_Bool (k == 19)) [
        | inl is ↦ rw (eqb-true k 19 is) bits
        | inr away ↦ sym (other x long fixed k (eqb-false k 16 far) (eqb-false k 19 away)) ∙ at k
            ∙ other y long' fixed' k (eqb-false k 16 far) (eqb-false k 19 away)
      ]
    ]

marked_fixed : (p : Polarity) (x : List ℕ) → is_marked p x ≡ true → is_fixed (attributes_at x) ≡ true
marked_fixed p x marked = (and_split _ (is_fixed (attributes_at x)) marked).1

differs_back : (p : Polarity) (x y : List ℕ) → IsBytes x → IsBytes y → without_mark p x ≡ without_mark p y → DiffersInMark p x y
differs_back p x y small small' same = go (is_marked p x) (is_marked p y) refl refl where
  go : (a b : Bool) → is_marked p x ≡ a → is_marked p y ≡ b → DiffersInMark p x y
  go false false e f = inl (sym (unmarked_is p x e) ∙ same ∙ unmarked_is p y f)
  go true false e f = inr (inl (e, sym (unmarked_is p y f) ∙ sym same ∙ marked_is p x e))
  go false true e f = inr (inr (f, sym (unmarked_is p x e) ∙ same ∙ marked_is p y f))
  go true true e f =
      inl (same_before x y (marked_long p x e) (marked_fixed p x e) (marked_long p y f) (marked_fixed p y f) small small'
      (sym (marked_is p x e) ∙ same ∙ marked_is p y f))

pub differ_of : (s : FileSystem) (p : Polarity) (at : ℕ) (cs : List CellForm) (a b o : List ℕ) → IsBytes a → IsBytes b
    → TilesUnmarked s p at cs a o → TilesUnmarked s p at cs b o → DifferInMarks p cs a b
differ_of s p at [] a b o small small' (none, none') (nil, nil') = (none, nil)
differ_of s p at (c ∷ cs) a b o small small' (u, w, v, e, e', is, place, last, more) (u', w', v', f, f', is', place', last', more') =
    let size : length u ≡ cell_len c = sym (cell_span s p c (without_mark p u) is ∙ length-without p u) in
    let size' : length u' ≡ cell_len c = sym (cell_span s p c (without_mark p u') is' ∙ length-without p u') in
    let long : length (without_mark p u) ≡ length (without_mark p u') = length-without p u ∙ size ∙ sym size' ∙ sym (length-without p u') in
    let cut = same_cut (without_mark p u) (without_mark p u') v v' long (sym e' ∙ f') in
    let front : without_mark p u ≡ without_mark p u' = cut.0 in
    let back : v ≡ v' = cut.1 in
    let bytes : IsBytes (u ++ w) = subst IsBytes e small in
    let bytes' : IsBytes (u' ++ w') = subst IsBytes f small' in
    let rest : TilesUnmarked s p (at + length u) cs w' v =
    subst (λ (n : ℕ). TilesUnmarked s p (at + n) cs w' v) (size' ∙ sym size) (subst (TilesUnmarked s p (at + length u') cs w') (sym back) more') in (
      u,
      u',
      w,
      w',
      e,
      f,
      size,
      differs_back p u u' (bytes_front u w bytes) (bytes_front u' w' bytes') front,
      differ_of s p (at + length u) cs w w' v (bytes_back u w bytes) (bytes_back u' w' bytes') more rest,
    )
