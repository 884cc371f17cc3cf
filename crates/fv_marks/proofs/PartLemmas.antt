-- A part of some bytes becomes other bytes. If the part stays the same, so do all bytes (`part_same`). If only marks of
-- the part change, only marks of all bytes change (`only_part`).
use Rattle.std.proofs.Common.{◌≡◌, ◌≤◌, ◌<◌, ℕ, ◌+◌, ◌%◌, [], ◌∷◌, ◌++◌}
use Rattle.fv_base.proofs.Laws.{List, length, take, drop, refl, sym, ap, ◌∙◌, subst, arith, map, field, slice_index, slice_set, AllByRecursion}
use Rattle.fv_base.proofs.Laws.{length-append, length-drop, length-take-le, take-append-drop, common_steps, drop-drop, get_or-append, length-set}
use Rattle.std.proofs.lemmas.List.{set-append_left, set-append_right}
use Rattle.fv_file.specs.Words.{unmarked}
use Rattle.fv_file.proofs.Laws.{length-unmarked}
use Rattle.fv_marks.specs.Words.{ChangesPart, Loses, OnlyMarksChange, unmarked_at}

-- ---- a part

-- bytes are their first p bytes, the next n bytes, and the other bytes
pub three_parts : (p n : ℕ) (b : List ℕ) → take p b ++ (field p n b ++ drop (p + n) b) ≡ b
three_parts p n b =
    ap (λ (l : List ℕ). take p b ++ (field p n b ++ l)) (sym (drop-drop n p b ∙ ap (λ (i : ℕ). drop i b) (omega arith)))
    ∙ ap (λ (l : List ℕ). take p b ++ l) (take-append-drop n (drop p b)) ∙ take-append-drop p b

pub part_same : (loses : Loses) (p n : ℕ) (b o : List ℕ) → ((x : List ℕ) → loses (field p n b) x → x ≡ field p n b)
    → ChangesPart loses p n b o → o ≡ b
part_same loses p n b o same (x, change, text) =
    text ∙ ap (λ (l : List ℕ). take p b ++ (l ++ drop (p + n) b)) (same x change) ∙ three_parts p n b

pub length-field : (p n : ℕ) (b : List ℕ) → p + n ≤ length b → length (field p n b) ≡ n
length-field p n b within = length-take-le n (drop p b) (omega (arith, length-drop p b, within))

-- if the part keeps its length, so do all bytes
pub part_length : (p n : ℕ) (b x : List ℕ) → p + n ≤ length b → length x ≡ n → length (take p b ++ (x ++ drop (p + n) b)) ≡ length b
part_length p n b x within long =
    omega (
      arith,
      length-append (take p b) (x ++ drop (p + n) b),
      length-append x (drop (p + n) b),
      length-take-le p b (omega (arith, within)),
      length-drop (p + n) b,
      long,
      within,
    )

-- ---- marks

-- a list of places that lie within n bytes
abbrev pub Within : ℕ → List ℕ → Type 0
Within n places = AllByRecursion (λ p. p + 24 ≤ n) places

pub length-unmarked_at : (ps : List ℕ) (b : List ℕ) → length (unmarked_at ps b) ≡ length b
length-unmarked_at [] b = refl
length-unmarked_at (p ∷ ps) b = length-unmarked_at ps (unmarked p b) ∙ length-unmarked p b

pub only_length : (b o : List ℕ) → OnlyMarksChange b o → length o ≡ length b
only_length b o (ps, within, is) = ap length is ∙ length-unmarked_at ps b

pub only_none : (b o : List ℕ) → o ≡ b → OnlyMarksChange b o
only_none b o same = ([], tt, same)

unmarked_at-append : (ps qs : List ℕ) (b : List ℕ) → unmarked_at (ps ++ qs) b ≡ unmarked_at qs (unmarked_at ps b)
unmarked_at-append [] qs b = refl
unmarked_at-append (p ∷ ps) qs b = unmarked_at-append ps qs (unmarked p b)

within-append : (n : ℕ) (ps qs : List ℕ) → Within n ps → Within n qs → Within n (ps ++ qs)
within-append n [] qs u v = v
within-append n (p ∷ ps) qs u v = (u.0, within-append n ps qs u.1 v)

pub only_then : (b m o : List ℕ) → OnlyMarksChange b m → OnlyMarksChange m o → OnlyMarksChange b o
only_then b m o (ps, u, is) (qs, v, last) = (
  ps ++ qs,
  within-append (length b) ps qs u (subst (λ (n : ℕ). Within n qs) (only_length b m (ps, u, is)) v),
  last ∙ ap (unmarked_at qs) is ∙ sym (unmarked_at-append ps qs b),
)

-- a mark in the middle of joined bytes
one_inside : (x y z : List ℕ) (i : ℕ) → i + 24 ≤ length y → unmarked (length x + i) (x ++ (y ++ z)) ≡ x ++ (unmarked i y ++ z)
one_inside x y z i within =
    let n : ℕ = length x in
    let value : ℕ = (slice_index y (i + 16) + 4) % 256 in
    let at : (j : ℕ) → j < length y → slice_index (x ++ (y ++ z)) (n + j) ≡ slice_index y j = inside in
    let one : slice_set (x ++ (y ++ z)) (n + (i + 16)) value ≡ x ++ (slice_set y (i + 16) value ++ z) = set_inside y (i + 16) value (omega (arith, within)) in
    grind (arith, common_steps, inside, set_inside, length-set)
  where
    inside : (j : ℕ) → j < length y → slice_index (x ++ (y ++ z)) (length x + j) ≡ slice_index y j
    inside j l = grind (arith, common_steps, get_or-append)

    set_inside : (w : List ℕ) (j v : ℕ) → j < length w → slice_set (x ++ (w ++ z)) (length x + j) v ≡ x ++ (slice_set w j v ++ z)
    set_inside w j v l =
        set-append_right x (w ++ z) (length x) (length x + j) v refl (omega arith)
        ∙ ap (λ (k : ℕ). x ++ slice_set (w ++ z) k v) (omega arith)
        ∙ ap (λ (u : List ℕ). x ++ u) (set-append_left w z j v l)

all_inside : (ps : List ℕ) (x y z : List ℕ) → Within (length y) ps
    → unmarked_at (map (λ (i : ℕ). length x + i) ps) (x ++ (y ++ z)) ≡ x ++ (unmarked_at ps y ++ z)
all_inside [] x y z u = refl
all_inside (p ∷ ps) x y z u =
    ap (unmarked_at (map (λ (i : ℕ). length x + i) ps)) (one_inside x y z p u.0)
    ∙ all_inside ps x (unmarked p y) z (subst (λ (n : ℕ). Within n ps) (sym (length-unmarked p y)) u.1)

moved_within : (p n m : ℕ) (ps : List ℕ) → p + n ≤ m → Within n ps → Within m (map (λ (i : ℕ). p + i) ps)
moved_within p n m [] l u = tt
moved_within p n m (q ∷ ps) l u = (omega (arith, l, u.0), moved_within p n m ps l u.1)

pub only_inside : (x y z y' : List ℕ) → OnlyMarksChange y y' → OnlyMarksChange (x ++ (y ++ z)) (x ++ (y' ++ z))
only_inside x y z y' (ps, u, is) = (
  map (λ (i : ℕ). length x + i) ps,
  moved_within (length x) (length y) (length (x ++ (y ++ z))) ps
      (omega (arith, length-append x (y ++ z), length-append y z)) u,
  ap (λ (l : List ℕ). x ++ (l ++ z)) is ∙ sym (all_inside ps x y z u),
)

pub only_part : (p n : ℕ) (b x : List ℕ) → OnlyMarksChange (field p n b) x → OnlyMarksChange b (take p b ++ (x ++ drop (p + n) b))
only_part p n b x only =
    subst (λ (l : List ℕ). OnlyMarksChange l (take p b ++ (x ++ drop (p + n) b))) (three_parts p n b)
    (only_inside (take p b) (field p n b) (drop (p + n) b) x only)
