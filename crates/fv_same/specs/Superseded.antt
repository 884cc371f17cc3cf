-- Superseded files: a file that is marked for update does not count if its update is in the same volume (PI specification,
-- volume 3, section 3.2.3).
use Rattle.std.specs.Prelude.{ℕ, Bool, true, false, if◌then◌else◌, List, [], ◌∷◌, Option, Some, None}
use Rattle.std.specs.BTreeSet.{insert_key}
use Rattle.std.specs.BTreeMap.{is_at}
use Rattle.std.specs.List.{list_any}
use Rattle.std.specs.Ordering.{nat_cmp, ordering_then}
use Rattle.std.specs.declared.cmp.Ordering.{Ordering}
use Rattle.fv_base.specs.Words.{le_at}
use Rattle.fv_levels.specs.Words.{SourceForm, rows_of}
use Rattle.fv_survey.specs.Words.{shows_mark}
use Rattle.fv_survey.specs.declared.row.Row.{Row}
use Rattle.fv_survey.specs.declared.row.RowKind.{RowKind}
use Rattle.fv_survey.specs.declared.row.RowKind.TheVariants as kinds
use Rattle.fv_same.specs.Meant.{around_after, around_at, bytes_of_row, file_counts, role_of, state_by}
use Rattle.fv_same.specs.declared.meant.Around.{Around}
use Rattle.fv_same.specs.declared.meant.Around.TheVariants as arounds
use Rattle.fv_same.specs.declared.meant.Role.{Role}
use Rattle.fv_same.specs.declared.meant.Role.TheVariants as roles

-- ---- names

-- a name in a volume: the offset of the volume, and the first and the last 8 bytes of the name as numbers; and the order
-- of such names
abbrev pub NameKey : Type 0
NameKey = ℕ × (ℕ × ℕ)

abbrev pub key_cmp : NameKey → NameKey → Ordering
key_cmp a b = ordering_then (nat_cmp a.0 b.0) (ordering_then (nat_cmp a.1.0 b.1.0) (nat_cmp a.1.1 b.1.1))

-- the name of the file r in the volume at this offset, and whether the file is marked for update, if the file counts
abbrev pub named_by : Option Around → ℕ → List ℕ → Option (NameKey × Bool)
named_by (Some (arounds.Volume start polarity)) code r =
    if file_counts polarity code r then Some ((start, (le_at 0 8 r, le_at 8 8 r)), shows_mark (state_by polarity r)) else None
named_by _ code r = None

abbrev pub named_as : RowKind → Option Around → ℕ → List ℕ → Option (NameKey × Bool)
named_as kinds.File parent code r = named_by parent code r
named_as _ parent code r = None

-- the same for a row of the bytes b, after the rows that these are around
abbrev pub named_row : List Around → List ℕ → Row → Option (NameKey × Bool)
named_row around b row = named_as row.kind (around_at around row.depth) row.code (bytes_of_row b row)

-- ---- the files that are not marked

-- the names, and the name of a file that is not marked
abbrev pub with_update : List NameKey → Option (NameKey × Bool) → List NameKey
with_update names (Some (name, false)) = insert_key key_cmp names name
with_update names _ = names

-- the names, and the names of the files that are not marked among these rows of the bytes b, in order
abbrev pub updates_from : List Around → List ℕ → List NameKey → List Row → List NameKey
updates_from around b names [] = names
updates_from around b names (row ∷ rows) =
    updates_from (around_after around row (role_of around b row)) b (with_update names (named_row around b row)) rows

-- the names of the files of a source that are not marked for update, in order
abbrev pub updates_of : SourceForm → List NameKey
updates_of s = updates_from [] s.bytes [] (rows_of s)

-- ---- superseded files

-- the file is marked for update, and its update has one of these names
abbrev pub is_superseded : List NameKey → Option (NameKey × Bool) → Bool
is_superseded names (Some (name, true)) = list_any (is_at (key_cmp name)) names
is_superseded names _ = false

-- the role of a row of the bytes b, after the rows that these are around, if these are the names of the files that are
-- not marked
abbrev pub role_in : List NameKey → List Around → List ℕ → Row → Role
role_in names around b row =
    if is_superseded names (named_row around b row) then roles.Out else role_of around b row
