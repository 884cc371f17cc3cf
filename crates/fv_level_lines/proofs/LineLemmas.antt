-- Lines that have been put one after another: some more of them (`left_more`), all of them (`left_none`), and the first of
-- them (`left_front`).
use Rattle.std.proofs.Common.{◌≡◌, ◌++◌, ℕ, zero, suc, List, [], ◌∷◌, take, refl, sym, ap, ◌∙◌, append_assoc, append-nil, subst}
use Rattle.std.proofs.lemmas.List.Folds.{concat-append}
use Rattle.std.specs.List.{concat}
use Rattle.fv_base.specs.Words.{WalkLaws}
use Rattle.fv_level_lines.specs.inner.PutLines.{Left}

-- ---- the first lines of joined lines

-- the first n items of the first of two lists are the first items of both
pub first_of : {X : Type 0} (n : ℕ) (xs ys : List X) → (m : ℕ) × (take m (xs ++ ys) ≡ take n xs)
first_of zero xs ys = (0, refl)
first_of (suc n) [] ys = (0, refl)
first_of (suc n) (x ∷ xs) ys = let r = first_of n xs ys in (suc r.0, ap (λ l. x ∷ l) r.1)

-- the items of the first list and the first n items of the second list are the first items of both
pub first_after : {X : Type 0} (n : ℕ) (xs ys : List X) → (m : ℕ) × (take m (xs ++ ys) ≡ xs ++ take n ys)
first_after n [] ys = (n, refl)
first_after n (x ∷ xs) ys = let r = first_after n xs ys in (suc r.0, ap (λ l. x ∷ l) r.1)

-- ---- lines that have been put

pub left_all : {S : Type 0} {takes : S → List ℕ → S → Type 0} → WalkLaws takes → (whole : List (List ℕ)) (s : S)
    → Left takes whole s s whole
left_all laws whole s = record { lines = []; all = refl; put = laws.none s }

pub left_more : {S : Type 0} {takes : S → List ℕ → S → Type 0} {whole left : List (List ℕ)} {s u v : S} → WalkLaws takes
    → (here rest : List (List ℕ)) → left ≡ here ++ rest → Left takes whole s u left → takes u (concat here) v
    → Left takes whole s v rest
left_more {takes = takes} {s = s} {v = v} laws here rest first w put = record {
  lines = w.lines ++ here;
  all = append_assoc w.lines here rest ∙ (ap (λ l. w.lines ++ l) (sym first) ∙ w.all);
  put = subst (λ text. takes s text v) (sym (concat-append w.lines here)) (laws.joined w.put put);
}

pub left_none : {S : Type 0} {takes : S → List ℕ → S → Type 0} {whole left : List (List ℕ)} {s u : S} → left ≡ []
    → Left takes whole s u left → takes s (concat whole) u
left_none {takes = takes} {s = s} {u = u} none w =
    subst (λ lines. takes s (concat lines) u) (sym (append-nil w.lines) ∙ (ap (λ l. w.lines ++ l) (sym none) ∙ w.all)) w.put

pub left_front : {S : Type 0} {takes : S → List ℕ → S → Type 0} {whole left : List (List ℕ)} {s u v : S} → WalkLaws takes
    → (here rest : List (List ℕ)) → left ≡ here ++ rest → Left takes whole s u left → (n : ℕ) × takes u (concat (take n here)) v
    → (m : ℕ) × takes s (concat (take m whole)) v
left_front {takes = takes} {whole = whole} {left = left} {s = s} {v = v} laws here rest first w (n, put) =
    let own = first_of n here rest in
    let both = first_after own.0 w.lines left in
    let is : take both.0 whole ≡ w.lines ++ take n here =
    ap (take both.0) (sym w.all) ∙ (both.1 ∙ ap (λ l. w.lines ++ l) (ap (take own.0) first ∙ own.1)) in (
      both.0,
      subst (λ text. takes s text v) (sym (ap concat is ∙ concat-append w.lines (take n here))) (laws.joined w.put put),
    )
