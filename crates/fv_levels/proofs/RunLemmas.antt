-- Attempts one after another: the attempts for two lists of sections are the attempts for the first list, and then, with
-- the budget that they leave, the attempts for the second list (`goes_more`).
use Rattle.std.proofs.Common.{◌≡◌, ◌+◌, ◌<◌, ◌≤◌, ℕ, zero, suc, List, [], ◌∷◌, ◌++◌, length, map, take, drop, slice_get, Some}
use Rattle.std.proofs.Common.{Bool, true, false, if◌then◌else◌, ap, ap₂, sym, refl, ◌∙◌, append_assoc, append-nil, arith}
use Rattle.fv_base.proofs.Laws.{drop_at, get_or, length-append, length-drop, map_more}
use Rattle.fv_survey.specs.declared.row.Row.{Row}
use Rattle.fv_base.proofs.Laws.{flat_map-append}
use Rattle.fv_levels.specs.declared.attempt.Progress.{Progress}
use Rattle.fv_levels.specs.Words.{Attempt, LevelsForm, SourceForm, after, after_all, attempt, closed_if, closed_of, is_covered, level_of}
use Rattle.fv_budget.specs.declared.budget.Budget.{Budget}
use Rattle.fv_levels.specs.Words.{first_progress, image_source, levels_from, levels_of, levels_with, packed_of, source_if, sources_of, tried}
use Rattle.fv_levels.specs.inner.Opening.{Continues, GoesOver}
use Rattle.fv_levels.specs.declared.place.PackedPlace.{PackedPlace}

-- a property of the attempts for some sections: the first section lies in contents that are stored, or is tried
pub tried_by : (P : List Attempt → Type 0) (s : Progress) (x : PackedPlace × List ℕ) (xs : List (PackedPlace × List ℕ))
    → P (tried s xs) → P (attempt s.left x ∷ tried (after s (attempt s.left x)) xs) → P (tried s (x ∷ xs))
tried_by P s x xs covered here = go (is_covered s.stored x.0) where
  go : (v : Bool) → P (if v then tried s xs else attempt s.left x ∷ tried (after s (attempt s.left x)) xs)
  go true = covered
  go false = here

pub tried_append : (s : Progress) (xs ys : List (PackedPlace × List ℕ)) → tried s (xs ++ ys) ≡ tried s xs ++ tried (after_all s (tried s xs)) ys
tried_append s [] ys = refl
tried_append s (x ∷ xs) ys =
    let first : Attempt = attempt s.left x in go (is_covered s.stored x.0) (tried_append s xs ys) (tried_append (after s first) xs ys) where
      go : (v : Bool) → tried s (xs ++ ys) ≡ tried s xs ++ tried (after_all s (tried s xs)) ys
          → tried (after s (attempt s.left x)) (xs ++ ys) ≡ tried (after s (attempt s.left x)) xs
          ++ tried (after_all (after s (attempt s.left x)) (tried (after s (attempt s.left x)) xs)) ys
          → (if v then tried s (xs ++ ys) else attempt s.left x ∷ tried (after s (attempt s.left x)) (xs ++ ys))
          ≡ (if v then tried s xs else attempt s.left x ∷ tried (after s (attempt s.left x)) xs)
          ++ tried (after_all s (if v then tried s xs else attempt s.left x ∷ tried (after s (attempt s.left x)) xs)) ys
      go true covered here = covered
      go false covered here = ap (λ l. attempt s.left x ∷ l) here

pub left_append : (s : Progress) (xs ys : List Attempt) → after_all s (xs ++ ys) ≡ after_all (after_all s xs) ys
left_append s [] ys = refl
left_append s (x ∷ xs) ys = left_append (after s x) xs ys

pub with_append : (w : LevelsForm) (xs ys : List Attempt) → levels_with w (xs ++ ys) ≡ levels_with (levels_with w xs) ys
with_append w xs ys =
    ap₂ (λ a b. record { sources = a; closed = b })
    (ap (λ l. w.sources ++ l) (flat_map-append (λ (a : Attempt). source_if a.place a.outcome) xs ys)
    ∙ sym (append_assoc w.sources (sources_of xs) (sources_of ys)))
    (ap (λ l. w.closed ++ l) (flat_map-append (λ (a : Attempt). closed_if a.place a.outcome) xs ys)
    ∙ sym (append_assoc w.closed (closed_of xs) (closed_of ys)))

pub with_none : (w : LevelsForm) → levels_with w [] ≡ w
with_none w = ap₂ (λ a b. record { sources = a; closed = b }) (append-nil w.sources) (append-nil w.closed)

pub goes_none : (w : LevelsForm) (s : Progress) → GoesOver w s [] w s
goes_none w s = record { levels = sym (with_none w); progress = refl }

pub goes_more : (a b c : LevelsForm) (s t u : Progress) (xs ys : List (PackedPlace × List ℕ)) → GoesOver a s xs b t → GoesOver b t ys c u
    → GoesOver a s (xs ++ ys) c u
goes_more a b c s t u xs ys g h = record {
  levels = h.levels ∙ ap₂ (λ w l. levels_with w (tried l ys)) g.levels g.progress
      ∙ sym (with_append a (tried s xs) (tried (after_all s (tried s xs)) ys)) ∙ ap (levels_with a) (sym (tried_append s xs ys));
  progress = h.progress ∙ ap (λ l. after_all l (tried l ys)) g.progress
      ∙ sym (left_append s (tried s xs) (tried (after_all s (tried s xs)) ys)) ∙ ap (after_all s) (sym (tried_append s xs ys));
}

-- one more row
pub goes_row : (f : Row → PackedPlace × List ℕ) (rows : List Row) (i : ℕ) (d : Row) (a b c : LevelsForm) (s t u : Progress) → i < length rows
    → GoesOver a s (map f (take i rows)) b t → GoesOver b t (f (get_or rows i d) ∷ []) c u → GoesOver a s (map f (take (i + 1) rows)) c u
goes_row f rows i d a b c s t u l g h =
    rw (map_more f rows i d l) (goes_more a b c s t u (map f (take i rows)) (f (get_or rows i d) ∷ []) g h)

pub goes_on : (a b : LevelsForm) (s t : Progress) (xs : List (PackedPlace × List ℕ)) → GoesOver a s xs b t → Continues a b
goes_on a b s t xs g = record { more = sources_of (tried s xs); sources = ap (λ w. w.sources) g.levels }

pub continues_more : (a b c : LevelsForm) → Continues a b → Continues b c → Continues a c
continues_more a b c f g = record {
  more = f.more ++ g.more;
  sources = g.sources ∙ ap (λ l. l ++ g.more) f.sources ∙ append_assoc a.sources f.more g.more;
}

pub get_append : {X : Type 0} (xs ys : List X) (i : ℕ) (x : X) → slice_get xs i ≡ Some x → slice_get (xs ++ ys) i ≡ Some x
get_append [] ys i x e = cc
get_append (y ∷ xs) ys zero x e = e
get_append (y ∷ xs) ys (suc i) x e = get_append xs ys i x e

pub still : (a b : LevelsForm) (i : ℕ) (s : SourceForm) → Continues a b → slice_get a.sources i ≡ Some s → slice_get b.sources i ≡ Some s
still a b i s f is = ap (λ l. slice_get l i) f.sources ∙ get_append a.sources f.more i s is

-- the source at the front of the sources that are left
pub some_source : {X : Type 0} (xs : List X) (i : ℕ) → i < length xs → (x : X) × (slice_get xs i ≡ Some x) × (drop i xs ≡ x ∷ drop (i + 1) xs)
some_source [] i l = absurd (omega (arith, l))
some_source (x ∷ xs) zero l = (x, refl, refl)
some_source (x ∷ xs) (suc i) l = let r = some_source xs i (omega (arith, l)) in
    let e : suc i + 1 ≡ suc (i + 1) = omega arith in (
      r.0,
      r.1,
      rw e r.2,
    )

pub levels_more : (k n : ℕ) (s : Progress) (sources : List SourceForm) → levels_from (suc k) n s sources
    ≡ level_of n s sources ++ levels_from k (n + length sources) (after_all s (level_of n s sources)) (sources_of (level_of n s sources))
unfolding levels_from
levels_more k n s sources = refl

pub levels_none : (n : ℕ) (s : Progress) (sources : List SourceForm) → levels_from 0 n s sources ≡ []
unfolding levels_from
levels_none n s sources = refl

-- ---- levels

pub start_of : (w : LevelsForm) (image : List ℕ) (s : Budget) → w.sources ≡ image_source image ∷ [] → w.closed ≡ []
    → levels_with w (levels_from 9 0 (first_progress s) w.sources) ≡ levels_of image s
start_of w image s e f = ap₂ (λ a b. levels_with (record { sources = a; closed = b }) (levels_from 9 0 (first_progress s) a)) e f

-- the level of the sources from an index on, and then the levels of the sources after these
pub level_step : (w v all : LevelsForm) (k from next : ℕ) (s t : Progress) → from ≤ length w.sources → next ≡ length w.sources
    → GoesOver w s (packed_of from (drop from w.sources)) v t → levels_with w (levels_from (suc k) from s (drop from w.sources)) ≡ all
    → (next ≤ length v.sources) × (levels_with v (levels_from k next t (drop next v.sources)) ≡ all)
level_step w v all k from next s t within is g h =
    let here : List Attempt = level_of from s (drop from w.sources) in
    let grown : v.sources ≡ w.sources ++ sources_of here = ap (λ x. x.sources) g.levels in
    let front : drop next v.sources ≡ sources_of here = ap (drop next) grown ∙ drop_at w.sources (sources_of here) next (sym is) in
    let count : from + length (drop from w.sources) ≡ next = omega (arith, within, is, length-drop from w.sources) in
    let long : length v.sources ≡ length w.sources + length (sources_of here) = ap length grown ∙ length-append w.sources (sources_of here) in (
      omega (arith, long, is),
      ap (λ x. levels_with x (levels_from k next t (drop next v.sources))) g.levels
          ∙ ap (λ n. levels_with (levels_with w here) (levels_from k n t (drop next v.sources))) (sym count)
          ∙ ap (λ l. levels_with (levels_with w here) (levels_from k (from + length (drop from w.sources)) l (drop next v.sources))) g.progress
          ∙ ap (λ l. levels_with (levels_with w here) (levels_from k (from + length (drop from w.sources)) (after_all s here) l)) front
          ∙ sym (with_append w here (levels_from k (from + length (drop from w.sources)) (after_all s here) (sources_of here)))
          ∙ sym (ap (levels_with w) (levels_more k from s (drop from w.sources))) ∙ h,
    )

pub level_end : (w all : LevelsForm) (n : ℕ) (s : Progress) (sources : List SourceForm) → levels_with w (levels_from 0 n s sources) ≡ all → w ≡ all
level_end w all n s sources h = sym (with_none w) ∙ sym (ap (levels_with w) (levels_none n s sources)) ∙ h
