-- The first entry with a name in an index is the entry of the first file with this name. The steps:
-- 1. The entries are the names with their numbers, each once (`of_name`, `place_of`, `apart`).
-- 2. Entries with the same name are next to each other, ordered by file number (`upward`, `beyond`, `between`).
-- 3. So the first entry with a name, if there is one, is the entry of the first file with this name (`found_there`,
--    `found_none`).
-- 4. The numbers of an order are in the order of the entries, so a search for the place of a name ends at the place of
--    that entry (`numbers_parted`, `place_there`).
use Rattle.std.proofs.Common.{◌≡◌, ◌≤◌, ◌<◌, ℕ, ◌+◌, [], ◌==◌, ◌&&◌, nat_lt, List, length, get_or, Bool, true, false, refl, sym, ap, ◌∙◌, subst, arith}
use Rattle.std.proofs.Common.{Some, None, lt-ltb, le-ltb}
use Rattle.fv_base.proofs.Laws.{Decides, position, position_or_len, is_lt, cases_lt, Decides-eqb}
use Rattle.fv_base.proofs.Laws.{not_from_Decides, get_or-map, get_or_default, length-map, All-get_or, at_index, not_equal, first_only}
use Rattle.std.specs.List.{IsDistinct}
use Rattle.std.proofs.lemmas.Bool.{false_from_ne_true}
use Rattle.std.proofs.lemmas.Cmp.{nat_eq_equiv}
use Rattle.std.proofs.lemmas.List.Sorted.{All-permutation, Contains-permutation, sorted_far}
use Rattle.std.proofs.lemmas.List.Sums.{position_or_len_is}
use Rattle.std.proofs.lemmas.Map.Keys.{apart_from_distinct, IsDistinct-IsPermutation, IsDistinct-from_apart}
use Rattle.fv_base.specs.declared.guid.Guid.{Guid}
use Rattle.fv_names.specs.Words.{Entry, Halves, IsIndex, IsName, entry_cmp, halves_cmp, halves_of, numbered, NamedFile, is_name, IsNameOrder}
use Rattle.std.specs.List.Sorted.{IsSorted, IsPartitionedBy, IsPartitionPoint}
use Rattle.fv_names.specs.inner.NameOrders.{IsShared}
use Rattle.fv_names.proofs.EntryOrderLaws.{before_too, less_orders, name_upto, neither_before, not_before_itself, numbers_rise}
use Rattle.fv_names.proofs.EntryOrderLaws.{one_name_between}
use Rattle.fv_names.proofs.NumberedLaws.{names_decide, numbered_at, numbered_length}

-- the default file, which `get_or` returns for a place past the end of the files; `no_entry` is the default entry
abbrev pub no_named : NamedFile
no_named = record { name = record { bytes = [] }; marked = false }

abbrev pub no_entry : Entry
no_entry = ((0, 0), 0)

-- ---- entries and names

module _ (names : List Guid) (es : List Entry) (index : IsIndex names es) (g : Guid) (e : Entry) where
  abbrev at : ℕ → Entry
  at p = get_or es p e

  abbrev entry_of : ℕ → Entry
  entry_of n = (halves_of (get_or names n g), n)

  -- the number of an entry is the number of a name, and the entry has the halves of this name
  abbrev IsOfName : Entry → Type 0
  IsOfName x = (x.1 < length names) × (x.0 ≡ halves_of (get_or names x.1 g))

  pub of_name : (p : ℕ) → p < length es
      → ((get_or es p e).1 < length names) × ((get_or es p e).0 ≡ halves_of (get_or names (get_or es p e).1 g))
  of_name p l =
      All-get_or IsOfName es p e l
      (All-permutation IsOfName (numbered 0 names) es index.all (λ k d m.
      let inside : k < length names = omega (arith, m, numbered_length 0 names) in
      rw (numbered_at names k g d inside) (inside, refl)))

  -- each name has an entry
  pub place_of : (n : ℕ) → n < length names
      → (p : ℕ) × (p < length es) × (get_or es p e ≡ (halves_of (get_or names n g), n))
  place_of n l =
      let x : Entry = entry_of n in
      let r = Contains-permutation (numbered 0 names) es x index.all (n, omega (arith, l, numbered_length 0 names), numbered_at names n g x l) in
      (r.0, r.1, get_or_default es r.0 e x r.1 ∙ r.2)

  -- two entries have different numbers
  abbrev same_number : Entry → Entry → Bool
  same_number a b = a.1 == b.1

  pub apart : (p q : ℕ) → p < q → q < length es → (get_or es p e).1 ≡ (get_or es q e).1 → ⊥
  apart p q lt l same =
      let differ : IsDistinct same_number (numbered 0 names) = IsDistinct-from_apart same_number (numbered 0 names) (λ i j d less m.
      let inside : j < length names = omega (arith, m, numbered_length 0 names) in
      rw (numbered_at names i g d (omega (arith, inside, less)), numbered_at names j g d inside) (not_equal i j (λ same. omega (arith, same, less)))) in
      not_from_Decides _ (Decides-eqb (get_or es p e).1 (get_or es q e).1)
      (apart_from_distinct same_number es p q e
      (IsDistinct-IsPermutation same_number (λ a b. nat_eq_equiv.symm a.1 b.1) (numbered 0 names) es index.all differ) lt l) same

  pub in_order : (p q : ℕ) → p ≤ q → q < length es → is_lt (entry_cmp (get_or es q e) (get_or es p e)) ≡ false
  in_order p q le l = sorted_far (λ (a b : Entry). is_lt (entry_cmp a b)) less_orders es index.ordered p q e le l

  -- of two entries with the same name, the later one has at least the number of the earlier one
  pub upward : (p q : ℕ) → p ≤ q → q < length es → (get_or es p e).0 ≡ (get_or es q e).0 → (get_or es p e).1 ≤ (get_or es q e).1
  upward p q le l same = numbers_rise (at p) (at q) (in_order p q le l) same

  pub beyond : (p q : ℕ) → p < q → q < length es → (get_or es p e).0 ≡ (get_or es q e).0 → (get_or es p e).1 < (get_or es q e).1
  beyond p q lt l same = first_only (cases_lt (at p).1 (at q).1) (λ most. apart p q lt l (omega (arith, upward p q (omega (arith, lt)) l same, most)))

  -- an entry between two entries with the same name has this name too
  pub between : (p r q : ℕ) → p ≤ r → r ≤ q → q < length es → (get_or es p e).0 ≡ (get_or es q e).0
      → (get_or es r e).0 ≡ (get_or es q e).0
  between p r q low high l same = one_name_between (at p) (at r) (at q) (in_order p r low (omega (arith, high, l))) (in_order r q high l) same

-- ---- the place of a name

-- the names that precede a name come first
pub parted : (es : List Entry) (key : Halves) → IsSorted entry_cmp es → IsPartitionedBy (λ (e : Entry). is_lt (halves_cmp e.0 key)) es
parted es key sorted i j e le l less =
    before_too (get_or es i e).0 (get_or es j e).0 key
    (name_upto (get_or es i e) (get_or es j e) (sorted_far (λ (a b : Entry). is_lt (entry_cmp a b)) less_orders es sorted i j e le l)) less

-- the first place whose name does not precede a name
abbrev pub IsPlaceOf : Halves → List Entry → ℕ → Type 0
IsPlaceOf key = IsPartitionPoint (λ (e : Entry). is_lt (halves_cmp e.0 key) ≡ true) (λ (e : Entry). is_lt (halves_cmp e.0 key) ≡ false)

module _ (es : List Entry) (key : Halves) (sorted : IsSorted entry_cmp es) (first : ℕ) (point : IsPlaceOf key es first) (e : Entry) where
  -- the entries with this name are at the place or after it, and all entries from the place to one of them have this name
  from_place : (q : ℕ) → (get_or es q e).0 ≡ key → first ≤ q
  from_place q is = let never : q < first → ⊥ = λ less. not_before_itself (get_or es q e).0 key is (point.0 q e (omega arith) less) in omega arith

  key_from : (p q : ℕ) → first ≤ p → p ≤ q → q < length es → (get_or es q e).0 ≡ key → (get_or es p e).0 ≡ key
  key_from p q low le l is =
      neither_before (get_or es p e).0 key (point.1 p e low (omega (arith, le, l)))
      (subst (λ (h : Halves). is_lt (halves_cmp h (get_or es p e).0) ≡ false) is
      (name_upto (get_or es p e) (get_or es q e) (sorted_far (λ (a b : Entry). is_lt (entry_cmp a b)) less_orders es sorted p q e le l)))

  -- two entries have a name exactly if the entry after its place has this name
  pub shared_by : first + 1 < length es → (get_or es (first + 1) e).0 ≡ key → IsShared es e key
  shared_by l is = (first, first + 1, omega arith, l, key_from first (first + 1) (omega arith) (omega arith) l is, is)

  pub second_has : IsShared es e key → (first + 1 < length es) × ((get_or es (first + 1) e).0 ≡ key)
  second_has (p, q, lt, l, is, same) =
      let low : first ≤ p = from_place p is in
      (omega (arith, low, lt, l), key_from (first + 1) q (omega arith) (omega (arith, low, lt)) l same)

  module _ (name : Guid) (whole : IsName name) (is : key ≡ halves_of name) (names : List Guid) (index : IsIndex names es) where
    abbrev g : Guid
    g = no_named.name

    -- the name with a number is the name in question exactly if the halves are the same
    named : (n : ℕ) → n < length names → Decides (is_name name (get_or names n g)) (halves_of name ≡ halves_of (get_or names n g))
    named n l = names_decide name (get_or names n g) whole (at_index IsName names n g index.are_names l)

    -- a file with this name has an entry at the place or after it
    entry_from : (n : ℕ) → n < length names → is_name name (get_or names n g) ≡ true
        → (q : ℕ) × (first ≤ q) × (q < length es) × ((get_or es q e).0 ≡ key) × ((get_or es q e).1 ≡ n)
    entry_from n l same =
        let s = place_of names es index g e n l in
        let has : (get_or es s.0 e).0 ≡ key = ap (λ (x : Entry). x.0) s.2 ∙ sym ((named n l).0 same) ∙ sym is in
        (s.0, from_place s.0 has, s.1, has, ap (λ (x : Entry). x.1) s.2)

    -- so the entry there, if it has this name, is the entry of the first file with this name
    pub found_there : first < length es → (get_or es first e).0 ≡ key → Some (get_or es first e).1 ≡ position (is_name name) names
    found_there l here =
        let n : ℕ = (get_or es first e).1 in
        let r = of_name names es index g e first l in
        let within : n < length names = r.0 in
        let at : position_or_len (is_name name) names ≡ n =
        position_or_len_is (is_name name) names n g (omega (arith, within)) (λ k lt. false_from_ne_true _ (λ same.
        let s = entry_from k (omega (arith, lt, within)) same in
        omega (arith, upward names es index g e first s.0 s.1 s.2 (here ∙ sym s.3), s.4, lt)))
        (λ m. (named n m).1 (sym is ∙ sym here ∙ r.1)) in
        rw (at, lt-ltb n (length names) within)

    -- and if it has another name, no file has this name
    pub found_none : (first < length es → (get_or es first e).0 ≡ key → ⊥) → None ≡ position (is_name name) names
    found_none not_there =
        let all : position_or_len (is_name name) names ≡ length names =
        position_or_len_is (is_name name) names (length names) g (omega arith) (λ k l. false_from_ne_true _ (λ same.
        let s = entry_from k l same in
        not_there (omega (arith, s.1, s.2)) (key_from first s.0 (omega arith) s.1 s.2 s.3))) (λ l. absurd (omega (arith, l))) in
        rw (all, le-ltb (length names) (length names) (omega arith))

-- ---- an order of names

module _ (names : List Guid) (numbers : List ℕ) (order : IsNameOrder names numbers) (p d : ℕ) (e : Entry) (l : p < length numbers) where
  pub place_inside : p < length order.entries
  place_inside = omega (arith, l, ap length order.are_numbers, length-map order.entries (λ (x : Entry). x.1))

  -- the number at a place is the number of the entry at this place
  pub number_there : get_or numbers p d ≡ (get_or order.entries p e).1
  number_there =
      ap (λ (ns : List ℕ). get_or ns p d) order.are_numbers ∙ get_or-map (λ (x : Entry). x.1) order.entries p e d place_inside

  -- so it is the number of a name, and the entry has the halves of this name
  pub number_inside : get_or numbers p d < length names
  number_inside = omega (arith, (of_name names order.entries order.index no_named.name e p place_inside).0, number_there)

  pub halves_there : (g : Guid) → halves_of (get_or names (get_or numbers p d) g) ≡ (get_or order.entries p e).0
  halves_there g = ap (λ (k : ℕ). halves_of (get_or names k g)) number_there ∙ sym (of_name names _ order.index g e p place_inside).1

-- the numbers of the files whose names precede a name come first, and the first of the others is at the place of the name
module _ (names : List Guid) (numbers : List ℕ) (order : IsNameOrder names numbers) (key : Halves) where
  abbrev pub precedes : ℕ → Bool
  precedes n = nat_lt n (length names) && is_lt (halves_cmp (halves_of (get_or names n no_named.name)) key)

  precedes_at : (p d : ℕ) (e : Entry) → p < length numbers → precedes (get_or numbers p d) ≡ is_lt (halves_cmp (get_or order.entries p e).0 key)
  precedes_at p d e l =
      let n : ℕ = get_or numbers p d in
      ap (λ (t : Bool). t && is_lt (halves_cmp (halves_of (get_or names n no_named.name)) key))
      (lt-ltb n (length names) (number_inside names numbers order p d e l))
      ∙ ap (λ (h : Halves). is_lt (halves_cmp h key)) (halves_there names numbers order p d e l no_named.name)

  pub numbers_parted : IsPartitionedBy precedes numbers
  numbers_parted i j d le l less =
      rw (precedes_at i d no_entry (omega (arith, le, l)))
      (parted order.entries key order.index.ordered i j no_entry le (place_inside names numbers order j d no_entry l)
      (sym (precedes_at j d no_entry l) ∙ less))

  pub place_there : (first : ℕ) → first ≤ length numbers
      → IsPartitionPoint (λ (n : ℕ). precedes n ≡ true) (λ (n : ℕ). precedes n ≡ false) numbers first → IsPlaceOf key order.entries first
  place_there first most point = (
    λ p e low less. sym (precedes_at p 0 e (omega (arith, less, most))) ∙ point.0 p 0 low less,
    λ p e low l.
        let inside : p < length numbers = omega (arith, l, ap length order.are_numbers, length-map order.entries (λ (x : Entry). x.1)) in
        sym (precedes_at p 0 e inside) ∙ point.1 p 0 low inside,
  )
