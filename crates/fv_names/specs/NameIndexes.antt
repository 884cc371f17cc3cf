-- The index of the names of some files, which is a sorted list, and the order of the names.
use Rattle.std.specs.Prelude.{◌≡◌, ◌≢◌, ◌<◌, ℕ, ◌+◌, ◌-◌, List, [], ◌∷◌, length, get_or, map}
use Rattle.std.specs.Int.{from_le_bytes, w64}
use Rattle.std.specs.List.{AllByRecursion}
use Rattle.std.specs.List.Sorted.{IsPermutation, IsSorted}
use Rattle.std.specs.Ordering.{nat_cmp, ordering_then}
use Rattle.std.specs.declared.cmp.Ordering.{Ordering}
use Rattle.fv_base.specs.Words.{bytes_of, IsBytes, field}
use Rattle.fv_base.specs.declared.guid.Guid.{Guid}
use Rattle.fv_names.specs.NamedFiles.{NamedFile}
use Rattle.fv_names.specs.declared.name_index.NameIndex.{NameIndex}
use Rattle.fv_names.specs.declared.name_order.NameOrder.{NameOrder}

-- the list consists of sixteen bytes (`IsSixteenBytes`), and the name consists of sixteen bytes (`IsName`)
abbrev pub IsSixteenBytes : List ℕ → Type 0
IsSixteenBytes bytes = (length bytes ≡ 16) × IsBytes bytes

abbrev pub IsName : Guid → Type 0
IsName name = IsSixteenBytes (bytes_of name)

-- the halves of a name as two numbers; and an entry: the halves of a name with the number of a file
abbrev pub Halves : Type 0
Halves = ℕ × ℕ

abbrev pub Entry : Type 0
Entry = Halves × ℕ

-- the two numbers that the first eight and the last eight of sixteen bytes spell; and the same for the bytes of a name
abbrev pub halves_in : List ℕ → Halves
halves_in bytes = (from_le_bytes w64 (field 0 8 bytes), from_le_bytes w64 (field 8 8 bytes))

abbrev pub halves_of : Guid → Halves
halves_of name = halves_in (bytes_of name)

-- the names of the files, in order
abbrev pub names_in : List NamedFile → List Guid
names_in fs = map (λ (f : NamedFile). f.name) fs

-- the entries of these names in order; the first has the number k
abbrev pub numbered : ℕ → List Guid → List Entry
numbered k [] = []
numbered k (name ∷ names) = (halves_of name, k) ∷ numbered (k + 1) names

-- the order of halves, by the first and then by the second; and of entries, by their halves and then by their numbers
abbrev pub halves_cmp : Halves → Halves → Ordering
halves_cmp a b = ordering_then (nat_cmp a.0 b.0) (nat_cmp a.1 b.1)

abbrev pub entry_cmp : Entry → Entry → Ordering
entry_cmp a b = ordering_then (halves_cmp a.0 b.0) (nat_cmp a.1 b.1)

-- the entries are the entries of these names, numbered from 0 and sorted; each name has sixteen bytes
pub record IsIndex (names : List Guid) (entries : List Entry) : Type 0 where
  pub ordered : IsSorted entry_cmp entries
  pub all : IsPermutation (numbered 0 names) entries
  pub are_names : AllByRecursion IsName names

-- the entries of an index
abbrev pub entries_of : NameIndex → List Entry
entries_of index = index.sorted.items

-- no two adjacent entries have the same name. `e` is the default of `get_or`; both places are in the list, so it does
-- not matter
abbrev pub NeighboursDiffer : List Entry → Type 0
NeighboursDiffer es =
    (e : Entry) (place : ℕ) → 0 < place → place < length es → (get_or es (place - 1) e).0 ≢ (get_or es place e).0

-- the numbers of the files of these entries
abbrev pub numbers_in : List Entry → List ℕ
numbers_in es = map (λ (e : Entry). e.1) es

-- the numbers are the numbers of the files with these names, in the order of an index of the names
pub record IsNameOrder (names : List Guid) (numbers : List ℕ) : Type 0 where
  pub entries : List Entry
  pub index : IsIndex names entries
  pub are_numbers : numbers ≡ numbers_in entries

-- the numbers of an order
abbrev pub numbers_of : NameOrder → List ℕ
numbers_of order = order.numbers.items
