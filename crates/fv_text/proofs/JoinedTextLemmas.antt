-- The texts of some items, put one after the other, are the text of all of them.
use Rattle.std.proofs.Common.{ℕ, ◌+◌, ◌<◌, ◌≤◌, [], ◌∷◌, ◌++◌, ◌≡◌, List, length, drop, get_or, ◌∙◌, sym, ap, subst, take, append_assoc, append-nil}
use Rattle.fv_base.proofs.Laws.{flat_map, flat_map-append, take_more, drop_more, drop_all, WalkLaws}

-- a sink took the texts of the first i items, and the text of the others completes the text of all; in `Text n xs
-- text`, the first item has the number n
pub record Tells {S X : Type 0} (takes : S → List ℕ → S → Type 0) (Text : ℕ → List X → List ℕ → Type 0) (xs : List X) (i : ℕ)
    (s t : S) : Type 0 where
  pub text : List ℕ
  pub taken : takes s text t
  pub on : (rest : List ℕ) → Text i (drop i xs) rest → Text 0 xs (text ++ rest)

pub tells_none : {S X : Type 0} {takes : S → List ℕ → S → Type 0} → WalkLaws takes → (Text : ℕ → List X → List ℕ → Type 0) (xs : List X)
    (s : S) → Tells takes Text xs 0 s s
tells_none laws Text xs s = record { text = []; taken = laws.none s; on = λ rest h. h }

-- the sink took the text of one more item
pub tells_more : {S X : Type 0} {takes : S → List ℕ → S → Type 0} {Text : ℕ → List X → List ℕ → Type 0} {xs : List X} {i : ℕ} {s t u : S}
    → WalkLaws takes → (d : X) (line : List ℕ) → i < length xs
    → ((rest : List ℕ) → Text (i + 1) (drop (i + 1) xs) rest → Text i (get_or xs i d ∷ drop (i + 1) xs) (line ++ rest))
    → Tells takes Text xs i s t → takes t line u → Tells takes Text xs (i + 1) s u
tells_more {X = X} {Text = Text} {xs = xs} {i = i} laws d line l first w more =
    let here : (rest : List ℕ) → Text (i + 1) (drop (i + 1) xs) rest → Text i (drop i xs) (line ++ rest) =
    λ rest h. subst (λ (ys : List X). Text i ys (line ++ rest)) (sym (drop_more xs i d l)) (first rest h) in
    record {
      text = w.text ++ line;
      taken = laws.joined w.taken more;
      on = λ rest h. subst (λ (x : List ℕ). Text 0 xs x) (sym (append_assoc w.text line rest)) (w.on (line ++ rest) (here rest h));
    }

pub tells_all : {S X : Type 0} {takes : S → List ℕ → S → Type 0} {Text : ℕ → List X → List ℕ → Type 0} {xs : List X} {i : ℕ} {s t : S}
    → Text i [] [] → length xs ≤ i → Tells takes Text xs i s t → (text : List ℕ) × Text 0 xs text × takes s text t
tells_all {X = X} {Text = Text} {xs = xs} {i = i} none l w =
    let end : Text i (drop i xs) [] = subst (λ (ys : List X). Text i ys []) (sym (drop_all i xs l)) none in
    (w.text, subst (λ (x : List ℕ). Text 0 xs x) (append-nil w.text) (w.on [] end), w.taken)

-- ---- a walk over a list

pub flat_next : {X A : Type 0} (f : X → List A) (xs : List X) (x : X) → flat_map f (xs ++ x ∷ []) ≡ flat_map f xs ++ f x
flat_next f xs x = flat_map-append f xs (x ∷ []) ∙ ap (λ l. flat_map f xs ++ l) (append-nil (f x))

-- the texts of the items up to the next index are those up to this index, and the text of the item here
pub texts_next : {X A : Type 0} (f : X → List A) (xs : List X) (i : ℕ) (d : X) → i < length xs
    → flat_map f (take (i + 1) xs) ≡ flat_map f (take i xs) ++ f (get_or xs i d)
texts_next f xs i d l = ap (flat_map f) (take_more xs i d l) ∙ flat_next f (take i xs) (get_or xs i d)
