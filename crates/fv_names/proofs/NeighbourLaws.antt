-- Entries with the same name are next to each other, ordered by file number. So neighbours show the first file with an
-- earlier twin, and the files that are replaced. The steps:
-- 1. Two files have the same name, are twins, or one replaces the other, exactly if their entries say so (`one_name`,
--    `twins`, `replaces_at`).
-- 2. Among the entries from one twin to another, one has a twin among the two entries before it (`near`). So the least
--    number of such an entry is the number of the first file with an earlier twin (`twin_before`, `first_none`).
-- 3. If there are no twins, a marked file is replaced exactly if two entries have its name (`replaced_back`,
--    `shared_replaced`).
-- 4. If no entry shares its name, there are no twins, and no file is replaced (`apart_twins`, `none_replaced`).
use Rattle.std.proofs.Common.{◌≡◌, ◌≤◌, ◌<◌, ◌⊎◌, ℕ, ◌+◌, ◌-◌, [], ◌∷◌, zero, suc, List, length, take, get_or, map, Bool, true, false, refl}
use Rattle.std.proofs.Common.{sym, ap, ◌∙◌, subst, arith, inl, inr, not, get_or-take, length-take-le, take_all}
use Rattle.fv_base.proofs.Laws.{common_steps, Decides, booleans_Decides, AllByRecursion, list_any, cases_lt, not_from_Decides, get_or_default}
use Rattle.fv_base.proofs.Laws.{get_or-map, length-map, recursion_from_All, Any-from_list_any, list_any_at, at_index}
use Rattle.std.proofs.lemmas.Bool.{false_from_ne_true, not_from_false}
use Rattle.std.proofs.lemmas.Bool.Decides.{Decides-and, Decides-like}
use Rattle.std.specs.List.{Contains}
use Rattle.std.proofs.lemmas.List.Elements.{All-from_get_or}
use Rattle.std.proofs.lemmas.List.Folds.{list_any_none}
use Rattle.fv_names.specs.Words.{NamedFile, NoTwins, is_twin, names_in, replaced_by, same_name, NeighboursDiffer, Entry, IsIndex, IsName, halves_of}
use Rattle.fv_names.specs.inner.NameOrders.{AreTwins, IsShared, IsTwinAt, mark_at}
use Rattle.fv_names.proofs.IndexLaws.{between, beyond, of_name, place_of, upward}
use Rattle.fv_names.proofs.NumberedLaws.{names_decide}

-- ---- twins among some files

none_at : (test : NamedFile → Bool) (fs : List NamedFile) (k : ℕ) (d : NamedFile) → list_any test fs ≡ false → k < length fs
    → test (get_or fs k d) ≡ false
none_at test fs k d h l = grind (arith, common_steps, list_any_at)

twins_apart : (fs : List NamedFile) (i j : ℕ) (d : NamedFile) → NoTwins is_twin fs → i < j → j < length fs
    → is_twin (get_or fs i d) (get_or fs j d) ≡ false
twins_apart [] i j d none p q = absurd (omega (arith, q))
twins_apart (f ∷ fs) zero zero d none p q = absurd (omega (arith, p))
twins_apart (f ∷ fs) zero (suc j) d none p q = none_at (is_twin f) fs j d none.0 (omega (arith, q))
twins_apart (f ∷ fs) (suc i) zero d none p q = absurd (omega (arith, p))
twins_apart (f ∷ fs) (suc i) (suc j) d none p q = twins_apart fs i j d none.1 (omega (arith, p)) (omega (arith, q))

no_twins_from : (fs : List NamedFile) (d : NamedFile)
    → ((i j : ℕ) → i < j → j < length fs → is_twin (get_or fs i d) (get_or fs j d) ≡ false) → NoTwins is_twin fs
no_twins_from [] d h = tt
no_twins_from (f ∷ fs) d h = (
  list_any_none (is_twin f) fs (All-from_get_or (λ g. is_twin f g ≡ false) fs d (λ k l. h 0 (suc k) (omega arith) (omega (arith, l)))),
  no_twins_from fs d (λ i j p q. h (suc i) (suc j) (omega (arith, p)) (omega (arith, q))),
)

-- of three marks, two are the same
two_same : (a b c : Bool) → (a ≡ b) ⊎ ((b ≡ c) ⊎ (a ≡ c))
two_same a b c = grind (arith, common_steps) steps 150000

-- a file that is not marked is not replaced
pub unmarked_kept : (f : NamedFile) (fs : List NamedFile) → f.marked ≡ false → list_any (replaced_by f) fs ≡ false
unmarked_kept f fs off = list_any_none (replaced_by f) fs (λ k d l. grind (arith, common_steps))

-- ---- the files of an index

module _ (fs : List NamedFile) (es : List Entry) (index : IsIndex (names_in fs) es) (d : NamedFile) (e : Entry) where
  abbrev at : ℕ → Entry
  at p = get_or es p e

  abbrev file : ℕ → NamedFile
  file p = get_or fs (get_or es p e).1 d

  names_length : length (names_in fs) ≡ length fs
  names_length = length-map fs (λ (f : NamedFile). f.name)

  name_at : (n : ℕ) → n < length fs → get_or (names_in fs) n d.name ≡ (get_or fs n d).name
  name_at n l = get_or-map (λ (f : NamedFile). f.name) fs n d d.name l

  pub number_within : (p : ℕ) → p < length es → (get_or es p e).1 < length fs
  number_within p l = omega (arith, (of_name (names_in fs) es index d.name e p l).0, names_length)

  -- each file has an entry
  pub entry_of : (n : ℕ) → n < length fs → (p : ℕ) × (p < length es) × ((get_or es p e).1 ≡ n)
  entry_of n l =
      let r = place_of (names_in fs) es index d.name e n (omega (arith, l, names_length)) in
      (r.0, r.1, ap (λ (x : Entry). x.1) r.2)

  has_name : (p : ℕ) → p < length es → (at p).0 ≡ halves_of (file p).name
  has_name p l = (of_name (names_in fs) es index d.name e p l).1 ∙ ap halves_of (name_at (at p).1 (number_within p l))

  whole_name : (p : ℕ) → p < length es → IsName (file p).name
  whole_name p l =
      let n : ℕ = (at p).1 in
      let low : n < length fs = number_within p l in
      subst IsName (name_at n low) (at_index IsName (names_in fs) n d.name index.are_names (omega (arith, low, names_length)))

  -- two files have the same name exactly if their entries have, and are twins exactly if their entries are
  one_name : (p q : ℕ) → p < length es → q < length es → Decides (same_name (file p) (file q)) ((at p).0 ≡ (at q).0)
  one_name p q k l = Decides-like _ (λ h. has_name p k ∙ h ∙ sym (has_name q l)) (λ h. sym (has_name p k) ∙ h ∙ has_name q l)
      (names_decide (file p).name (file q).name (whole_name p k) (whole_name q l))

  twins : (p q : ℕ) → p < length es → q < length es → Decides (is_twin (file p) (file q)) (AreTwins fs d (at p) (at q))
  twins p q k l = Decides-and (same_name (file p) (file q)) _ (one_name p q k l) (booleans_Decides (file p).marked (file q).marked)

  -- ---- the first file with an earlier twin

  twin_since : (p q : ℕ) → p < q → q < length es → AreTwins fs d (at p) (at q)
      → list_any (is_twin (file q)) (take (at q).1 fs) ≡ true
  twin_since p q lt l h =
      let i : ℕ = (at p).1 in
      let n : ℕ = (at q).1 in
      let less : i < n = beyond (names_in fs) es index d.name e p q lt l h.0 in
      let within : n < length fs = number_within q l in
      list_any_at (is_twin (file q)) (take n fs) i d (omega (arith, less, length-take-le n fs (omega (arith, within))))
      (ap (is_twin (file q)) (get_or-take n fs i d less) ∙ (twins q p l (omega (arith, lt, l))).1 (sym h.0, sym h.1))

  -- a file whose entry has a twin among the two entries before it has an earlier twin
  pub twin_before : (q : ℕ) → 0 < q → q < length es → IsTwinAt fs d es e q
      → list_any (is_twin (get_or fs (get_or es q e).1 d)) (take (get_or es q e).1 fs) ≡ true
  twin_before q above l (inl h) = twin_since (q - 1) q (omega (arith, above)) l h
  twin_before q above l (inr h) = twin_since (q - 2) q (omega (arith, above)) l h

  -- let n be at most the number of each entry that has a twin among the two entries before it
  module _ (n : ℕ) (least : (r : ℕ) → 0 < r → r < length es → IsTwinAt fs d es e r → n ≤ (get_or es r e).1) where
    -- then n is at most the number of each entry that has a twin before it: this entry or the preceding one has a twin
    -- among the two entries before it
    near : (p q : ℕ) → p < q → q < length es → AreTwins fs d (at p) (at q) → (p + 1 < q) ⊎ (q ≤ p + 1) → n ≤ (at q).1
    near p q lt l h (inr last) =
        let one : p ≡ q - 1 = omega (arith, lt, last) in least q (omega (arith, lt)) l (inl (subst (λ (k : ℕ). AreTwins fs d (at k) (at q)) one h))
    near p q lt l h (inl more) =
        let named : (r : ℕ) → p ≤ r → r ≤ q → (at r).0 ≡ (at q).0 = λ r low high. between (names_in fs) es index d.name e p r q low high l h.0 in
        let one : (at (q - 1)).0 ≡ (at q).0 = named (q - 1) (omega (arith, lt)) (omega arith) in
        let two : (at (q - 2)).0 ≡ (at q).0 = named (q - 2) (omega (arith, more)) (omega arith) in
        elim (two_same (mark_at fs d (at (q - 2)).1) (mark_at fs d (at (q - 1)).1) (mark_at fs d (at q).1)) [
          | inl same ↦
              let back : q - 2 ≡ q - 1 - 1 = omega arith in
              let twin : AreTwins fs d (at (q - 1 - 1)) (at (q - 1)) =
              subst (λ (k : ℕ). AreTwins fs d (at k) (at (q - 1))) back (two ∙ sym one, same) in
              omega (
                arith,
                least (q - 1) (omega (arith, more)) (omega (arith, l)) (inl twin),
                upward (names_in fs) es index d.name e (q - 1) q (omega arith) l one,
              )
          | inr other ↦ elim other [
            | inl same ↦ least q (omega (arith, lt)) l (inl (one, same))
            | inr same ↦ least q (omega (arith, lt)) l (inr (two, same))
          ]
        ]

    -- so the first n files have no twins
    pub first_none : n ≤ length fs → NoTwins is_twin (take n fs)
    first_none most = no_twins_from (take n fs) d (λ i j p q. false_from_ne_true _ (λ same.
        let low : j < n = omega (arith, q, length-take-le n fs most) in
        let a = entry_of i (omega (arith, p, low, most)) in
        let b = entry_of j (omega (arith, low, most)) in
        let twin : AreTwins fs d (at a.0) (at b.0) = (twins a.0 b.0 a.1 b.1).0
        (rw (a.2, b.2) (rw (get_or-take n fs i d (omega (arith, p, low)), get_or-take n fs j d low) at same)) in
        elim (cases_lt a.0 b.0) [
          | inl lt ↦ omega (arith, near a.0 b.0 lt b.1 twin (cases_lt (a.0 + 1) b.0), b.2, low)
          | inr le ↦ omega (arith, upward (names_in fs) es index d.name e b.0 a.0 le a.1 (sym twin.0), a.2, b.2, p)
        ]))

  -- ---- files that are replaced

  replaces_at : (p q : ℕ) → p < length es → q < length es → Decides (replaced_by (file p) (file q)) (((at p).0 ≡ (at q).0)
      × (((file p).marked ≡ true) × (not (file q).marked ≡ true)))
  replaces_at p q k l = Decides-and _ _ (one_name p q k l) (Decides-and _ _ ((λ h. h), (λ h. h)) ((λ h. h), (λ h. h)))

  -- if a file is replaced, two entries have its name
  replaced_back : (p : ℕ) → p < length es → list_any (replaced_by (file p)) fs ≡ true → IsShared es e (at p).0
  replaced_back p l h =
      let r = Any-from_list_any (replaced_by (file p)) fs h in
      let b = entry_of r.0 r.2 in
      let is : file b.0 ≡ r.1 = ap (λ (n : ℕ). get_or fs n d) b.2 ∙ get_or_default fs r.0 d r.1 r.2 ∙ r.3 in
      let parts = (replaces_at p b.0 l b.1).0 (ap (replaced_by (file p)) is ∙ r.4) in
      let other : b.0 ≡ p → ⊥ = λ same. let on : not true ≡ true = ap not (sym (ap (λ (k : ℕ). (file k).marked) same ∙ parts.1.0)) ∙ parts.1.1 in cc in
      elim (cases_lt p b.0) [
        | inl lt ↦ (p, b.0, lt, b.1, refl, sym parts.0)
        | inr le ↦ (b.0, p, omega (arith, le, other), l, sym parts.0, refl)
      ]

  -- if two entries have the name of a marked file, and there are no twins, the file of one of them is not marked, and
  -- replaces the marked file
  replaced_beside : (p q : ℕ) → p < length es → q < length es → (at q).0 ≡ (at p).0 → (file p).marked ≡ true → (file q).marked ≡ false
      → list_any (replaced_by (file p)) fs ≡ true
  replaced_beside p q k l same on off =
      list_any_at (replaced_by (file p)) fs (at q).1 d (number_within q l) ((replaces_at p q k l).1 (sym same, (on, not_from_false _ off)))

  shared_replaced : NoTwins is_twin fs → (p : ℕ) → p < length es → (file p).marked ≡ true → IsShared es e (at p).0
      → list_any (replaced_by (file p)) fs ≡ true
  shared_replaced none p l on (i, j, lt, m, first, second) = go (file i).marked refl where
    go : (t : Bool) → (file i).marked ≡ t → list_any (replaced_by (file p)) fs ≡ true
    go false off = replaced_beside p i l (omega (arith, lt, m)) first on off
    go true also = replaced_beside p j l m second on (false_from_ne_true _ (λ too.
        let same : (at i).0 ≡ (at j).0 = first ∙ sym second in
        not_from_Decides _ (twins i j (omega (arith, lt, m)) m) (twins_apart fs (at i).1 (at j).1 d none
        (beyond (names_in fs) es index d.name e i j lt m same) (number_within j m)) (same, also ∙ sym too)))

  -- so a marked file is replaced exactly if two entries have its name
  pub update_shares : NoTwins is_twin fs → (f : NamedFile) → Contains fs f → f.marked ≡ true
      → Decides (list_any (replaced_by f) fs) (IsShared es e (halves_of f.name))
  update_shares none f (n, l, is) =
      let r = entry_of n l in
      let same : file r.0 ≡ f = ap (λ (k : ℕ). get_or fs k d) r.2 ∙ get_or_default fs n d f l ∙ is in
      subst (λ (g : NamedFile). g.marked ≡ true → Decides (list_any (replaced_by g) fs) (IsShared es e (halves_of g.name))) same (λ on. (
        λ h. subst (IsShared es e) (has_name r.0 r.1) (replaced_back r.0 r.1 h),
        λ shared. shared_replaced none r.0 r.1 on (subst (IsShared es e) (sym (has_name r.0 r.1)) shared),
      ))

  -- ---- names that differ

  module _ (apart : NeighboursDiffer es) where
    no_twin_at : (r : ℕ) → 0 < r → r < length es → IsTwinAt fs d es e r → ⊥
    no_twin_at r above l (inl h) = apart e r above l h.0
    no_twin_at r above l (inr h) = apart e r above l (between (names_in fs) es index d.name e (r - 2) (r - 1) r (omega arith) (omega arith) l h.0)

    -- if no entry shares its name, there are no twins
    pub apart_twins : NoTwins is_twin fs
    apart_twins =
        subst (NoTwins is_twin) (take_all (length fs) fs (omega arith)) (first_none (length fs) (λ r above l twin. absurd (no_twin_at r above l twin)) (omega arith))

    alone : (p : ℕ) → IsShared es e (at p).0 → ⊥
    alone p (i, j, lt, m, first, second) =
        apart e j (omega (arith, lt)) m (between (names_in fs) es index d.name e i (j - 1) j (omega (arith, lt)) (omega arith) m (first ∙ sym second))

    -- if no entry shares its name, no file is replaced
    pub none_replaced : AllByRecursion (λ f. list_any (replaced_by f) fs ≡ false) fs
    none_replaced = recursion_from_All _ fs (All-from_get_or (λ f. list_any (replaced_by f) fs ≡ false) fs d (λ n l. false_from_ne_true _ (λ h.
        let r = entry_of n l in alone r.0 (replaced_back r.0 r.1 (ap (λ (k : ℕ). list_any (replaced_by (get_or fs k d)) fs) r.2 ∙ h)))))

-- ---- the files of the code

-- the number of an entry is the number of a file
pub file_within : {X : Type 0} (form : X → NamedFile) (files : List X) (es : List Entry) → IsIndex (names_in (map form files)) es
    → (x : Entry) (p : ℕ) → p < length es → x ≡ get_or es p x → x.1 < length files
file_within form files es index x p l is = grind (arith, common_steps, number_within, length-map) steps 150000
