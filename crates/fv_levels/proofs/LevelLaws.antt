-- The levels of an image: the packed sections of all sources are tried (`all_tried`, `each_tried`), and each source is
-- the contents of a section of an earlier source (`all_after`).
use Rattle.std.proofs.Common.{◌≡◌, ◌==◌, ◌*◌, min, ◌+◌, ◌<◌, ◌≤◌, ℕ, zero, suc, List, [], ◌∷◌, ◌++◌, Bool, true, false, length, map}
use Rattle.std.proofs.Common.{◌⊎◌, inl, inr, Result, Ok, Err, nat_le, if◌then◌else◌, ap, ap₂, sym, refl, subst, ◌∙◌, append_assoc, arith}
use Rattle.std.specs.List.{AllByRecursion}
use Rattle.fv_base.proofs.Laws.{None, Option, Some, flat_map-append, length-append, nat_tests}
use Rattle.fv_base.specs.Words.{volume_limit}
use Rattle.fv_budget.specs.Words.{contents_limit}
use Rattle.fv_budget.specs.declared.budget.Budget.{Budget}
use Rattle.std.specs.Result.{result_map_both}
use Rattle.fv_open.specs.Words.{opened}
use Rattle.fv_open.specs.declared.fault.OpenFault.{OpenFault}
use Rattle.fv_open.specs.declared.way.Way.{Way}
use Rattle.fv_survey.specs.declared.row.Row.{Row}
use Rattle.fv_levels.specs.Words.{AreLevels, Attempt, ComeAfter, SourceForm, after, after_all, attempt, attempts_of, budget_after}
use Rattle.fv_levels.specs.Words.{level_of, levels_from, levels_of, outcome_of, outcome_within, packed_in, packed_of, packed_rows, section_in}
use Rattle.fv_levels.specs.Words.{LevelsForm, IsTried, closed_if, closed_of, first_progress, image_source, is_covered, last_stored, stored_in}
use Rattle.fv_levels.specs.Words.{source_if, sources_of, tried}
use Rattle.fv_levels.specs.declared.attempt.Progress.{Progress}
use Rattle.fv_levels.specs.declared.attempt.Stored.{Stored}
use Rattle.fv_levels.specs.declared.place.PackedPlace.{PackedPlace}
use Rattle.fv_levels.specs.declared.place.Reason.{Reason}
use Rattle.fv_levels.specs.declared.place.Reason.TheVariants as reasons
use Rattle.fv_levels.proofs.RunLemmas.{levels_more, levels_none, tried_append, tried_by}

pub packed_append : (n : ℕ) (xs ys : List SourceForm) → packed_of n (xs ++ ys) ≡ packed_of n xs ++ packed_of (n + length xs) ys
packed_append n [] ys = let e : n + 0 ≡ n = omega arith in rw e refl
packed_append n (x ∷ xs) ys =
    let e : n + 1 + length xs ≡ n + suc (length xs) = omega arith in
    ap (λ l. packed_in n x ++ l) (packed_append (n + 1) xs ys ∙ ap (λ k. packed_of (n + 1) xs ++ packed_of k ys) e)
    ∙ sym (append_assoc (packed_in n x) (packed_of (n + 1) xs) (packed_of (n + suc (length xs)) ys))

-- a property of the items of two lists
all_join : {X : Type 0} (P : X → Type 0) (xs ys : List X) → AllByRecursion P xs → AllByRecursion P ys → AllByRecursion P (xs ++ ys)
all_join P [] ys f g = g
all_join P (x ∷ xs) ys f g = (f.0, all_join P xs ys f.1 g)

-- ---- how deep sources are

-- sources of a level before which k further levels follow
abbrev pub AtLevel : ℕ → SourceForm → Type 0
AtLevel k x = (x.depth + k ≡ 9) × (x.depth ≤ 8)

abbrev pub PlacedAt : ℕ → PackedPlace × List ℕ → Type 0
PlacedAt k x = x.0.depth + k ≡ 9

rows_deep : (k n : ℕ) (s : SourceForm) (rows : List Row) → AtLevel k s → AllByRecursion (PlacedAt k) (map (section_in n s) rows)
rows_deep k n s [] at = tt
rows_deep k n s (row ∷ rows) at = (at.0, rows_deep k n s rows at)

packed_deep : (k n : ℕ) (ss : List SourceForm) → AllByRecursion (AtLevel k) ss → AllByRecursion (PlacedAt k) (packed_of n ss)
packed_deep k n [] all = tt
packed_deep k n (s ∷ ss) all =
    all_join (PlacedAt k) (packed_in n s) (packed_of (n + 1) ss) (rows_deep k n s (packed_rows s) all.0) (packed_deep k (n + 1) ss all.1)

source_deep : (k : ℕ) (place : PackedPlace) (outcome : Result (Way × List ℕ) Reason) → place.depth + suc k ≡ 9 → place.depth < 8
    → AllByRecursion (AtLevel k) (source_if place outcome)
source_deep k place (Ok x) e l = ((omega (arith, e), omega (arith, l)), tt)
source_deep k place (Err r) e l = tt

tried_deep : (k : ℕ) (s : Budget) (x : PackedPlace × List ℕ) → x.0.depth + suc k ≡ 9
    → AllByRecursion (AtLevel k) (source_if x.0 (outcome_of s x.0.depth x.1))
tried_deep k s x e = go (nat_le 8 x.0.depth) refl where
  go : (v : Bool) → nat_le 8 x.0.depth ≡ v
      → AllByRecursion (AtLevel k) (source_if x.0 (if v then Err reasons.TooDeep else outcome_within (contents_limit s) x.1))
  go true is = tt
  go false is =
      let l : x.0.depth < 8 = grind (arith, nat_tests) in
      source_deep k x.0 (outcome_within (contents_limit s) x.1) e l

next_deep : (k : ℕ) (s : Progress) (xs : List (PackedPlace × List ℕ)) → AllByRecursion (PlacedAt (suc k)) xs
    → AllByRecursion (AtLevel k) (sources_of (tried s xs))
next_deep k s [] all = tt
next_deep k s (x ∷ xs) all =
    let t : Progress = after s (attempt s.left x) in
    tried_by (λ l. AllByRecursion (AtLevel k) (sources_of l)) s x xs (next_deep k s xs all.1)
    (all_join (AtLevel k) (source_if x.0 (outcome_of s.left x.0.depth x.1)) (sources_of (tried t xs)) (tried_deep k s.left x all.0)
    (next_deep k t xs all.1))

-- no sources are deeper than the last level
none_deeper : (ss : List SourceForm) → AllByRecursion (AtLevel 0) ss → ss ≡ []
none_deeper [] all = refl
none_deeper (s ∷ ss) all = absurd (omega (arith, all.0.0, all.0.1))

-- ---- the packed sections of all sources are tried

pub all_tried : (k n : ℕ) (s : Progress) (ss : List SourceForm) → AllByRecursion (AtLevel k) ss
    → levels_from k n s ss ≡ tried s (packed_of n (ss ++ sources_of (levels_from k n s ss)))
all_tried zero n s ss all =
    levels_none n s ss ∙ ap (λ l. tried s (packed_of n (l ++ []))) (sym (none_deeper ss all))
    ∙ ap (λ l. tried s (packed_of n (ss ++ sources_of l))) (sym (levels_none n s ss))
all_tried (suc k) n s ss all =
    let here : List Attempt = level_of n s ss in
    let rest : List Attempt = levels_from k (n + length ss) (after_all s here) (sources_of here) in
    let more = all_tried k (n + length ss) (after_all s here) (sources_of here)
    (next_deep k s (packed_of n ss) (packed_deep (suc k) n ss all)) in
    levels_more k n s ss ∙ ap (λ l. here ++ l) more
    ∙ sym (tried_append s (packed_of n ss) (packed_of (n + length ss) (sources_of here ++ sources_of rest)))
    ∙ ap (tried s) (sym (packed_append n ss (sources_of here ++ sources_of rest)))
    ∙ ap (λ l. tried s (packed_of n (ss ++ l))) (sym (flat_map-append (λ (a : Attempt). source_if a.place a.outcome) here rest))
    ∙ ap (λ l. tried s (packed_of n (ss ++ sources_of l))) (sym (levels_more k n s ss))

-- ---- each source comes after the source that its section is in

abbrev pub Before : ℕ → PackedPlace × List ℕ → Type 0
Before n x = x.0.source < n

rows_before : (m n : ℕ) (s : SourceForm) (rows : List Row) → n < m → AllByRecursion (Before m) (map (section_in n s) rows)
rows_before m n s [] l = tt
rows_before m n s (row ∷ rows) l = (l, rows_before m n s rows l)

packed_before : (m n : ℕ) (ss : List SourceForm) → n + length ss ≤ m → AllByRecursion (Before m) (packed_of n ss)
packed_before m n [] l = tt
packed_before m n (s ∷ ss) l =
    all_join (Before m) (packed_in n s) (packed_of (n + 1) ss) (rows_before m n s (packed_rows s) (omega (arith, l)))
    (packed_before m (n + 1) ss (omega (arith, l)))

after_join : (n : ℕ) (xs ys : List SourceForm) → ComeAfter n xs → ComeAfter (n + length xs) ys → ComeAfter n (xs ++ ys)
after_join n [] ys f g = let e : n + 0 ≡ n = omega arith in rw e at g
after_join n (x ∷ xs) ys f g =
    let e : n + suc (length xs) ≡ n + 1 + length xs = omega arith in
    (f.0, after_join (n + 1) xs ys f.1 (rw e at g))

source_after : (n m : ℕ) (place : PackedPlace) (outcome : Result (Way × List ℕ) Reason) (ys : List SourceForm) → place.source < m → m ≤ n
    → ((k : ℕ) → m ≤ k → ComeAfter k ys) → ComeAfter n (source_if place outcome ++ ys)
source_after n m place (Ok x) ys l within more = (omega (arith, l, within), more (n + 1) (omega (arith, within)))
source_after n m place (Err r) ys l within more = more n within

next_after : (n m : ℕ) (s : Progress) (xs : List (PackedPlace × List ℕ)) → AllByRecursion (Before m) xs → m ≤ n
    → ComeAfter n (sources_of (tried s xs))
next_after n m s [] all within = tt
next_after n m s (x ∷ xs) all within =
    let t : Progress = after s (attempt s.left x) in
    tried_by (λ l. ComeAfter n (sources_of l)) s x xs (next_after n m s xs all.1 within)
    (source_after n m x.0 (outcome_of s.left x.0.depth x.1) (sources_of (tried t xs)) all.0 within
    (λ k l. next_after k m t xs all.1 l))

pub all_after : (k n : ℕ) (s : Progress) (ss : List SourceForm) → ComeAfter (n + length ss) (sources_of (levels_from k n s ss))
all_after zero n s ss = rw (levels_none n s ss) tt
all_after (suc k) n s ss =
    let here : List Attempt = level_of n s ss in
    let rest : List Attempt = levels_from k (n + length ss) (after_all s here) (sources_of here) in
    let both : sources_of (levels_from (suc k) n s ss) ≡ sources_of here ++ sources_of rest =
    ap sources_of (levels_more k n s ss) ∙ flat_map-append (λ (a : Attempt). source_if a.place a.outcome) here rest in
    subst (ComeAfter (n + length ss)) (sym both)
    (after_join (n + length ss) (sources_of here) (sources_of rest)
    (next_after (n + length ss) (n + length ss) s (packed_of n ss) (packed_before (n + length ss) n ss (omega arith)) (omega arith))
    (all_after k (n + length ss) (after_all s here) (sources_of here)))

-- ---- all levels

pub are_levels : (image : List ℕ) (s : Budget) → AreLevels image s (levels_of image s) (attempts_of image s)
are_levels image s = record {
  attempted = all_tried 9 0 (first_progress s) (image_source image ∷ []) ((refl, omega arith), tt);
  sources = refl;
  earlier = all_after 9 0 (first_progress s) (image_source image ∷ []);
  closed = refl;
}

-- ---- the levels of an image are the only ones

after_rest : (n : ℕ) (xs ys : List SourceForm) → ComeAfter n (xs ++ ys) → ComeAfter (n + length xs) ys
after_rest n [] ys f = let e : n + 0 ≡ n = omega arith in rw e f
after_rest n (x ∷ xs) ys f =
    let e : n + suc (length xs) ≡ n + 1 + length xs = omega arith in
    rw e (after_rest (n + 1) xs ys f.1)

abbrev pub NotBefore : ℕ → PackedPlace × List ℕ → Type 0
NotBefore n x = n ≤ x.0.source

rows_from : (m n : ℕ) (s : SourceForm) (rows : List Row) → m ≤ n → AllByRecursion (NotBefore m) (map (section_in n s) rows)
rows_from m n s [] l = tt
rows_from m n s (row ∷ rows) l = (l, rows_from m n s rows l)

packed_from : (m n : ℕ) (ss : List SourceForm) → m ≤ n → AllByRecursion (NotBefore m) (packed_of n ss)
packed_from m n [] l = tt
packed_from m n (s ∷ ss) l =
    all_join (NotBefore m) (packed_in n s) (packed_of (n + 1) ss) (rows_from m n s (packed_rows s) l)
    (packed_from m (n + 1) ss (omega (arith, l)))

-- no source is the contents of a section in a source that does not come before it
none_own : (n : ℕ) (place : PackedPlace) (outcome : Result (Way × List ℕ) Reason) (ys : List SourceForm) → n ≤ place.source
    → ComeAfter n (source_if place outcome ++ ys) → (source_if place outcome ≡ []) × ComeAfter n ys
none_own n place (Ok x) ys l f = absurd (omega (arith, l, f.0))
none_own n place (Err r) ys l f = (refl, f)

none_after : (n : ℕ) (s : Progress) (xs : List (PackedPlace × List ℕ)) → AllByRecursion (NotBefore n) xs
    → ComeAfter n (sources_of (tried s xs)) → sources_of (tried s xs) ≡ []
none_after n s [] all = λ f. refl
none_after n s (x ∷ xs) all =
    let t : Progress = after s (attempt s.left x) in
    tried_by (λ l. ComeAfter n (sources_of l) → sources_of l ≡ []) s x xs (none_after n s xs all.1) (λ f.
    let own = none_own n x.0 (outcome_of s.left x.0.depth x.1) (sources_of (tried t xs)) all.0 f in
    ap (λ l. l ++ sources_of (tried t xs)) own.0 ∙ none_after n t xs all.1 own.1)

pub only_levels : (k n : ℕ) (s : Progress) (ss : List SourceForm) (attempts : List Attempt) → AllByRecursion (AtLevel k) ss
    → attempts ≡ tried s (packed_of n (ss ++ sources_of attempts)) → ComeAfter (n + length ss) (sources_of attempts)
    → attempts ≡ levels_from k n s ss
only_levels zero n s ss attempts all is after =
    let bare : ss ≡ [] = none_deeper ss all in
    let own : attempts ≡ tried s (packed_of n (sources_of attempts)) = is ∙ ap (λ l. tried s (packed_of n (l ++ sources_of attempts))) bare in
    let first : n + length ss ≡ n = omega (arith, ap length bare) in
    let none : sources_of attempts ≡ [] =
    ap sources_of own
    ∙ none_after n s (packed_of n (sources_of attempts)) (packed_from n n (sources_of attempts) (omega arith))
    (subst (ComeAfter n) (ap sources_of own) (subst (λ k. ComeAfter k (sources_of attempts)) first after)) in
    own ∙ ap (λ l. tried s (packed_of n l)) none ∙ sym (levels_none n s ss)
only_levels (suc k) n s ss attempts all is after =
    let here : List Attempt = level_of n s ss in
    let rest : List Attempt = tried (after_all s here) (packed_of (n + length ss) (sources_of attempts)) in
    let parts : attempts ≡ here ++ rest =
    is ∙ ap (tried s) (packed_append n ss (sources_of attempts))
    ∙ tried_append s (packed_of n ss) (packed_of (n + length ss) (sources_of attempts)) in
    let both : sources_of attempts ≡ sources_of here ++ sources_of rest =
    ap sources_of parts ∙ flat_map-append (λ (a : Attempt). source_if a.place a.outcome) here rest in
    let more = only_levels k (n + length ss) (after_all s here) (sources_of here) rest
    (next_deep k s (packed_of n ss) (packed_deep (suc k) n ss all))
    (ap (λ l. tried (after_all s here) (packed_of (n + length ss) l)) both)
    (after_rest (n + length ss) (sources_of here) (sources_of rest) (subst (ComeAfter (n + length ss)) both after)) in
    parts ∙ ap (λ l. here ++ l) more ∙ sym (levels_more k n s ss)

pub only_attempts : (image : List ℕ) (s : Budget) (w : LevelsForm) (attempts : List Attempt) → AreLevels image s w attempts
    → attempts ≡ attempts_of image s
only_attempts image s w attempts h =
    only_levels 9 0 (first_progress s) (image_source image ∷ []) attempts ((refl, omega arith), tt)
    (h.attempted ∙ ap (λ l. tried (first_progress s) (packed_of 0 l)) h.sources) h.earlier

pub only_one : (image : List ℕ) (s : Budget) (w : LevelsForm) (attempts : List Attempt) → AreLevels image s w attempts
    → w ≡ levels_of image s
only_one image s w attempts h =
    let same = only_attempts image s w attempts h in
    ap₂ (λ a b. record { sources = a; closed = b }) (h.sources ∙ ap (λ l. image_source image ∷ sources_of l) same)
    (h.closed ∙ ap closed_of same)

-- ---- nothing is left out

count_one : (place : PackedPlace) (outcome : Result (Way × List ℕ) Reason)
    → length (source_if place outcome) + length (closed_if place outcome) ≡ 1
count_one place (Ok x) = refl
count_one place (Err r) = refl

count_each : (attempts : List Attempt) → length (sources_of attempts) + length (closed_of attempts) ≡ length attempts
count_each [] = refl
count_each (a ∷ more) = omega (
  arith,
  count_one a.place a.outcome,
  count_each more,
  length-append (source_if a.place a.outcome) (sources_of more),
  length-append (closed_if a.place a.outcome) (closed_of more),
)

pub count_all : (image : List ℕ) (s : Budget) (w : LevelsForm) (attempts : List Attempt) → AreLevels image s w attempts
    → length w.sources + length w.closed ≡ length attempts + 1
count_all image s w attempts h = omega (arith, count_each attempts, ap length h.sources, ap length h.closed)

-- a section lies in the last contents that are stored, or it is tried, or it lies in contents that are stored and that
-- one of the attempts opens
abbrev Told : Progress → List Attempt → PackedPlace × List ℕ → Type 0
Told s attempts x = (is_covered s.stored x.0 ≡ true) ⊎ IsTried x.0 attempts

told_later : (s : Progress) (a : Attempt) (more : List Attempt) (x : PackedPlace × List ℕ) → Told (after s a) more x → Told s (a ∷ more) x
told_later s a more x told = elim told [
  | inl covered ↦ go (stored_in a.place a.outcome) refl covered
  | inr later ↦ inr (inr (inr later))
] where
  go : (o : Option Stored) → stored_in a.place a.outcome ≡ o → is_covered (last_stored s.stored o) x.0 ≡ true → Told s (a ∷ more) x
  go (Some stored) e covered = inr (inr (inl (ap (λ p. is_covered p x.0) e ∙ covered)))
  go None e covered = inl covered

told_all : (s : Progress) (a : Attempt) (more : List Attempt) (xs : List (PackedPlace × List ℕ)) → AllByRecursion (Told (after s a) more) xs
    → AllByRecursion (Told s (a ∷ more)) xs
told_all s a more [] all = tt
told_all s a more (x ∷ xs) all = (told_later s a more x all.0, told_all s a more xs all.1)

all_told : (s : Progress) (xs : List (PackedPlace × List ℕ)) → AllByRecursion (Told s (tried s xs)) xs
all_told s [] = tt
all_told s (x ∷ xs) = go (is_covered s.stored x.0) refl (all_told s xs) (all_told (after s (attempt s.left x)) xs) where
  go : (v : Bool) → is_covered s.stored x.0 ≡ v → AllByRecursion (Told s (tried s xs)) xs
      → AllByRecursion (Told (after s (attempt s.left x)) (tried (after s (attempt s.left x)) xs)) xs
      → AllByRecursion (Told s (if v then tried s xs else attempt s.left x ∷ tried (after s (attempt s.left x)) xs)) (x ∷ xs)
  go true e covered here = (inl e, covered)
  go false e covered here = (inr (inl refl), told_all s (attempt s.left x) (tried (after s (attempt s.left x)) xs) xs here)

tried_only : (s : Budget) (attempts : List Attempt) (xs : List (PackedPlace × List ℕ))
    → AllByRecursion (Told (first_progress s) attempts) xs → AllByRecursion (λ x. IsTried x.0 attempts) xs
tried_only s attempts [] all = tt
tried_only s attempts (x ∷ xs) all = (
  elim all.0 [
    | inl covered ↦ cc
    | inr is ↦ is
  ],
  tried_only s attempts xs all.1,
)

pub each_tried : (image : List ℕ) (s : Budget) (w : LevelsForm) (attempts : List Attempt) → AreLevels image s w attempts
    → AllByRecursion (λ x. IsTried x.0 attempts) (packed_of 0 w.sources)
each_tried image s w attempts h =
    tried_only s attempts (packed_of 0 w.sources)
    (subst (λ l. AllByRecursion (Told (first_progress s) l) (packed_of 0 w.sources)) (sym h.attempted)
    (all_told (first_progress s) (packed_of 0 w.sources)))

-- ---- what an opened section contains

opened_within : (o : Option ℕ) (b : List ℕ) (x : Way × List ℕ) → outcome_within o b ≡ Ok x → (limit : ℕ) × (o ≡ Some limit) × (opened limit b ≡ Ok x)
opened_within None b x e = cc
opened_within (Some limit) b x e = (limit, refl, go (opened limit b) e) where
  go : (r : Result (Way × List ℕ) OpenFault) → result_map_both (λ y. y) (λ fault. reasons.Fault fault) r ≡ Ok x → r ≡ Ok x
  go (Ok y) is = cc
  go (Err f) is = cc

pub opened_by : (s : Budget) (depth : ℕ) (b : List ℕ) (x : Way × List ℕ) → outcome_of s depth b ≡ Ok x
    → (limit : ℕ) × (contents_limit s ≡ Some limit) × (opened limit b ≡ Ok x)
opened_by s depth b x e = go (nat_le 8 depth) e where
  go : (v : Bool) → (if v then Err reasons.TooDeep else outcome_within (contents_limit s) b) ≡ Ok x
      → (limit : ℕ) × (contents_limit s ≡ Some limit) × (opened limit b ≡ Ok x)
  go true is = cc
  go false is = opened_within (contents_limit s) b x is

-- ---- there are not many sources

left_some : (s : Budget) (limit : ℕ) → contents_limit s ≡ Some limit → 0 < s.left
left_some s limit e = go (s.left == 0) refl e where
  go : (v : Bool) → (s.left == 0) ≡ v → (if v then None else Some (min s.left volume_limit)) ≡ Some limit → 0 < s.left
  go true is h = cc
  go false is h = grind (arith, nat_tests)

few_out : (s : Budget) (place : PackedPlace) (outcome : Result (Way × List ℕ) Reason) (ys : List SourceForm)
    → ((y : Way × List ℕ) → outcome ≡ Ok y → 0 < s.left) → 65536 * length ys ≤ (budget_after s outcome).left + 65535
    → 65536 * length (source_if place outcome ++ ys) ≤ s.left + 65535
few_out s place (Ok x) ys some h = omega (arith, some x refl, h)
few_out s place (Err (reasons.Fault f)) ys some h = omega (arith, h)
few_out s place (Err reasons.TooDeep) ys some h = h
few_out s place (Err reasons.Spent) ys some h = h

few_tried : (s : Progress) (xs : List (PackedPlace × List ℕ)) → 65536 * length (sources_of (tried s xs)) ≤ s.left.left + 65535
few_tried s [] = omega arith
few_tried s (x ∷ xs) =
    let t : Progress = after s (attempt s.left x) in
    tried_by (λ l. 65536 * length (sources_of l) ≤ s.left.left + 65535) s x xs (few_tried s xs)
    (few_out s.left x.0 (outcome_of s.left x.0.depth x.1) (sources_of (tried t xs))
    (λ y is. let by = opened_by s.left x.0.depth x.1 y is in left_some s.left by.0 by.1) (few_tried t xs))

pub few_sources : (image : List ℕ) (s : Budget) (w : LevelsForm) (attempts : List Attempt) → AreLevels image s w attempts
    → 65536 * length w.sources ≤ s.left + 131071
few_sources image s w attempts h =
    let few : 65536 * length (sources_of attempts) ≤ s.left + 65535 =
    subst (λ l. 65536 * length (sources_of l) ≤ s.left + 65535) (sym h.attempted) (few_tried (first_progress s) (packed_of 0 w.sources)) in
    omega (arith, few, ap length h.sources)
