-- The first difference of two lists of parts.
use Rattle.std.proofs.Common.{◌≡◌, ◌≢◌, ℕ, zero, suc, List, [], ◌∷◌, Option, Some, None, map, slice_get, option_map, ap, ap₂, sym, refl, ◌∙◌}
use Rattle.std.proofs.Common.{IfSome, IfNone, is_none, true, false}
use Rattle.fv_same.specs.inner.Placed.{placed_form}
use Rattle.fv_same.specs.Words.{PartForm, PlacedPart}
use Rattle.fv_same.specs.inner.Walks.{meant}
use Rattle.fv_same.specs.declared.part.Part.{Part}
use Rattle.fv_same.specs.Words.{FirstDiffers, without_places}
use Rattle.fv_same.specs.declared.difference.Difference.{Difference}

-- the lists differ in their first parts
pub differs_here : (d : Difference) (ps qs : List PlacedPart)
    → option_map (λ (p : PlacedPart). p.part) (slice_get ps 0) ≢ option_map (λ (p : PlacedPart). p.part) (slice_get qs 0)
    → d.first ≡ option_map (λ (p : PlacedPart). p.place) (slice_get ps 0)
    → d.second ≡ option_map (λ (p : PlacedPart). p.place) (slice_get qs 0) → FirstDiffers d ps qs
differs_here d ps qs differ first second =
    record { number = 0; before = refl; differ = differ; first = first; second = second }

-- the lists begin with equal parts
pub differs_later : (d : Difference) (p q : PlacedPart) (ps qs : List PlacedPart) → p.part ≡ q.part → FirstDiffers d ps qs
    → FirstDiffers d (p ∷ ps) (q ∷ qs)
differs_later d p q ps qs e f = record {
  number = suc f.number;
  before = ap₂ (λ (x : PartForm) (xs : List PartForm). x ∷ xs) e f.before;
  differ = f.differ;
  first = f.first;
  second = f.second;
}

pub get_map : {A B : Type 0} (f : A → B) (xs : List A) (i : ℕ) → option_map f (slice_get xs i) ≡ slice_get (map f xs) i
get_map f [] i = refl
get_map f (x ∷ xs) zero = refl
get_map f (x ∷ xs) (suc i) = get_map f xs i

-- lists that differ are not equal
pub not_same : (d : Difference) (ps qs : List PlacedPart) → FirstDiffers d ps qs → without_places ps ≢ without_places qs
not_same d ps qs f e =
    f.differ (get_map (λ (p : PlacedPart). p.part) ps f.number ∙ ap (λ l. slice_get l f.number) e
    ∙ sym (get_map (λ (p : PlacedPart). p.part) qs f.number))

-- what holds while two lists are compared: where the parts that are left first differ, all parts first differ; and all
-- parts are equal, if those that are left are
abbrev pub Compared : (ms ns ps qs : List PlacedPart) → Type 0
Compared ms ns ps qs =
    ((d : Difference) → FirstDiffers d ps qs → FirstDiffers d ms ns)
    × (without_places ps ≡ without_places qs → without_places ms ≡ without_places ns)

-- the part at the front of a list, and what is left after it
pub record Fronts (o : Option Part) (ps rest : List PlacedPart) : Type 0 where
  pub some : IfSome o (λ p. ps ≡ placed_form p ∷ rest)
  pub none : IfNone o ((ps ≡ []) × (rest ≡ []))

pub front_is : (o : Option Part) (ps rest : List PlacedPart) → Fronts o ps rest → slice_get ps 0 ≡ option_map placed_form o
front_is None ps rest f = ap (λ l. slice_get l 0) f.none.0
front_is (Some p) ps rest f = ap (λ l. slice_get l 0) f.some

pub parts_front : (o : Option Part) → option_map (λ (p : PlacedPart). p.part) (option_map placed_form o) ≡ meant o
parts_front None = refl
parts_front (Some p) = refl

pub place_front : (o : Option Part)
    → option_map (λ (p : PlacedPart). p.place) (option_map placed_form o) ≡ option_map (λ (p : Part). p.place) o
place_front None = refl
place_front (Some p) = refl

-- two parts that do not mean the same are the first difference
pub found : (d : Difference) (one other : Option Part) (ms ns ps qs more rest : List PlacedPart) → Compared ms ns ps qs
    → Fronts one ps more → Fronts other qs rest → meant one ≢ meant other → d.first ≡ option_map (λ (p : Part). p.place) one
    → d.second ≡ option_map (λ (p : Part). p.place) other → FirstDiffers d ms ns
found d one other ms ns ps qs more rest so f g differ first second =
    let left : option_map (λ (p : PlacedPart). p.part) (slice_get ps 0) ≡ meant one =
    ap (option_map (λ (p : PlacedPart). p.part)) (front_is one ps more f) ∙ parts_front one in
    let right : option_map (λ (p : PlacedPart). p.part) (slice_get qs 0) ≡ meant other =
    ap (option_map (λ (p : PlacedPart). p.part)) (front_is other qs rest g) ∙ parts_front other in
    so.0 d (differs_here d ps qs (λ e. differ (sym left ∙ e ∙ right))
    (first ∙ sym (ap (option_map (λ (p : PlacedPart). p.place)) (front_is one ps more f) ∙ place_front one))
    (second ∙ sym (ap (option_map (λ (p : PlacedPart). p.place)) (front_is other qs rest g) ∙ place_front other)))

-- both lists begin with parts that mean the same
pub goes_on : (one other : Option Part) (ms ns ps qs more rest : List PlacedPart) → Compared ms ns ps qs → Fronts one ps more
    → Fronts other qs rest → meant one ≡ meant other → is_none one ≡ false → Compared ms ns more rest
goes_on None other ms ns ps qs more rest so f g same some = cc
goes_on (Some p) None ms ns ps qs more rest so f g same some = cc
goes_on (Some p) (Some q) ms ns ps qs more rest so f g same some =
    let e : (placed_form p).part ≡ (placed_form q).part = cc in (
      λ d h. so.0 d (rw f.some (rw g.some (differs_later d (placed_form p) (placed_form q) more rest e h))),
      λ h. so.1 (rw f.some (rw g.some (ap₂ (λ (x : PartForm) (xs : List PartForm). x ∷ xs) e h))),
    )

-- both lists end
pub ends : (one other : Option Part) (ms ns ps qs more rest : List PlacedPart) → Compared ms ns ps qs → Fronts one ps more
    → Fronts other qs rest → meant one ≡ meant other → is_none one ≡ true → without_places ms ≡ without_places ns
ends None None ms ns ps qs more rest so f g same none = so.1 (rw f.none.0 (rw g.none.0 refl))
ends None (Some q) ms ns ps qs more rest so f g same none = cc
ends (Some p) other ms ns ps qs more rest so f g same none = cc
