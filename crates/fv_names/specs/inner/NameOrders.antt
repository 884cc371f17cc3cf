-- What an entry of an index and the entries near it show about their files. `d` and `e` are the defaults of `get_or`. All
-- places that are read exist, except that `IsTwinAt` reads place 0 for `place - 2` at place 1.
use Rattle.std.specs.Prelude.{◌≡◌, ℕ, ◌-◌, ◌<◌, ◌⊎◌, Bool, List, length, get_or}
use Rattle.fv_names.specs.NameIndexes.{Entry, Halves}
use Rattle.fv_names.specs.NamedFiles.{NamedFile}

-- whether the file with this number is marked for update
abbrev pub mark_at : List NamedFile → NamedFile → ℕ → Bool
mark_at fs d n = (get_or fs n d).marked

-- two entries have the same name, and their files have the same mark
abbrev pub AreTwins : List NamedFile → NamedFile → Entry → Entry → Type 0
AreTwins fs d a b = (a.0 ≡ b.0) × (mark_at fs d a.1 ≡ mark_at fs d b.1)

-- the entry at a place other than the first has a twin among the two entries preceding it
abbrev pub IsTwinAt : List NamedFile → NamedFile → List Entry → Entry → ℕ → Type 0
IsTwinAt fs d es e place =
    AreTwins fs d (get_or es (place - 1) e) (get_or es place e) ⊎ AreTwins fs d (get_or es (place - 2) e) (get_or es place e)

-- at least two of the entries have the name with these halves
abbrev pub IsShared : List Entry → Entry → Halves → Type 0
IsShared es e key =
    (p : ℕ) × (q : ℕ) × (p < q) × (q < length es) × ((get_or es p e).0 ≡ key) × ((get_or es q e).0 ≡ key)
