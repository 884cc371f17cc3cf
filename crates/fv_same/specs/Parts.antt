-- The parts of an image at every level: what it says, in order, whatever its places, pads and packing are.
use Rattle.std.specs.Prelude.{ℕ, zero, suc, ◌+◌, ◌==◌, nat_lt, ◌&&◌, Bool, true, false, if◌then◌else◌}
use Rattle.std.specs.Prelude.{List, [], ◌∷◌, ◌++◌, map, slice_get, Option, Some, None}
use Rattle.fv_levels.specs.Words.{LevelsForm, SourceForm, is_packed_row, rows_of}
use Rattle.fv_levels.specs.declared.place.Origin.{Origin}
use Rattle.fv_survey.specs.declared.row.Row.{Row}
use Rattle.fv_survey.specs.declared.row.RowKind.{RowKind}
use Rattle.fv_survey.specs.declared.row.RowKind.TheVariants as kinds
use Rattle.fv_same.specs.Meant.{around_after, bytes_of_row, is_aside, says}
use Rattle.fv_same.specs.Superseded.{NameKey, role_in, updates_of}
use Rattle.fv_same.specs.declared.meant.Around.{Around}
use Rattle.fv_same.specs.declared.meant.Role.{Role}
use Rattle.fv_same.specs.declared.meant.Role.TheVariants as roles
use Rattle.fv_same.specs.declared.part.PartPlace.{PartPlace}

-- ---- parts

-- a part: the number of opened sections around it, the number of rows around it in its source, its kind, and what it
-- says
pub record PartForm : Type 0 where
  pub level : ℕ
  pub depth : ℕ
  pub kind : RowKind
  pub says : List (List ℕ)

-- a part, its place and its bytes; or bytes outside of the meaning, which are not a part
pub record PlacedPart : Type 0 where
  pub place : PartPlace
  pub part : PartForm
  pub outside : Bool
  pub bytes : List ℕ

-- ---- one source

-- a source that is read, before its next row. `next` is the number of the next source that may be the contents of a
-- section of it, `around` is about the rows around the row, and `updates` are the names of its files that are not marked
-- for update
pub record ReaderForm : Type 0 where
  pub number : ℕ
  pub level : ℕ
  pub bytes : List ℕ
  pub next : ℕ
  pub around : List Around
  pub updates : List NameKey

-- the source is the contents of the section at this offset of source n
abbrev pub is_from : ℕ → ℕ → Option Origin → Bool
is_from n offset None = false
is_from n offset (Some origin) = (origin.place.source == n) && (origin.place.offset == offset)

abbrev pub is_contents : ℕ → ℕ → Option SourceForm → Bool
is_contents n offset None = false
is_contents n offset (Some s) = is_from n offset s.origin

-- the row is the row of a packed section that is opened: the next source is its contents
abbrev pub is_opened_row : List SourceForm → ReaderForm → Row → Bool
is_opened_row sources x row = is_packed_row row && is_contents x.number row.offset (slice_get sources x.next)

-- the part that this row is, or the bytes outside of the meaning
abbrev pub part_as : Bool → ReaderForm → Row → RowKind → List ℕ → PlacedPart
part_as outside x row kind r = record {
  place = record { source = x.number; offset = row.offset; length = row.length };
  part = record { level = x.level; depth = row.depth; kind = kind; says = says kind r };
  outside = outside;
  bytes = r;
}

-- the part of a row with this role, if there is one, or its bytes outside of the meaning. A packed section that is
-- opened is a part that says nothing: its contents say it. A packed section that is not opened says its bytes
abbrev pub part_with : Role → Bool → ReaderForm → Row → Option PlacedPart
part_with roles.Whole opened x row = Some (part_as false x row row.kind (bytes_of_row x.bytes row))
part_with roles.Packed opened x row =
    if opened then Some (part_as false x row kinds.Packed [])
    else Some (part_as false x row row.kind (bytes_of_row x.bytes row))
part_with roles.Out opened x row =
    if is_aside x.around x.bytes row then Some (part_as true x row row.kind (bytes_of_row x.bytes row)) else None
part_with (roles.Through a) opened x row = None

abbrev pub part_of : List SourceForm → ReaderForm → Row → Option PlacedPart
part_of sources x row = part_with (role_in x.updates x.around x.bytes row) (is_opened_row sources x row) x row

-- the number of the source that is read after the row: the contents of a packed section that is opened and counts
abbrev pub contents_with : Role → Bool → ℕ → Option ℕ
contents_with roles.Packed opened next = if opened then Some next else None
contents_with _ opened next = None

abbrev pub contents_of : List SourceForm → ReaderForm → Row → Option ℕ
contents_of sources x row = contents_with (role_in x.updates x.around x.bytes row) (is_opened_row sources x row) x.next

-- the source after the row
abbrev pub reader_after : List SourceForm → ReaderForm → Row → ReaderForm
reader_after sources x row = record {
  number = x.number;
  level = x.level;
  bytes = x.bytes;
  next = if is_opened_row sources x row then x.next + 1 else x.next;
  around = around_after x.around row (role_in x.updates x.around x.bytes row);
  updates = x.updates;
}

-- ---- all sources

-- the number of sources, from the first of these on, that are the image or the contents of a section of a source before
-- source n. The sources are in the order of the sources that they come from
abbrev pub comes_before : ℕ → Option Origin → Bool
comes_before n None = true
comes_before n (Some origin) = nat_lt origin.place.source n

abbrev pub count_before : ℕ → List SourceForm → ℕ
count_before n [] = 0
count_before n (s ∷ ss) = if comes_before n s.origin then count_before n ss + 1 else 0

-- the source with this number, before its first row
abbrev pub reader_at : List SourceForm → ℕ → SourceForm → ReaderForm
reader_at sources n s = record {
  number = n;
  level = s.depth;
  bytes = s.bytes;
  next = count_before n sources;
  around = [];
  updates = updates_of s;
}

-- the items of some rows. Each row has one item, which is its part or nothing. The items of the contents of a section
-- follow the item of its row, if they are read then. `inside` gives the items of the source with a number
abbrev pub read_if : (ℕ → List (Option PlacedPart)) → Option ℕ → List (Option PlacedPart)
read_if inside None = []
read_if inside (Some n) = inside n

abbrev pub items_from : (ℕ → List (Option PlacedPart)) → List SourceForm → ReaderForm → List Row → List (Option PlacedPart)
items_from inside sources x [] = []
items_from inside sources x (row ∷ rows) =
    part_of sources x row
    ∷ (read_if inside (contents_of sources x row) ++ items_from inside sources (reader_after sources x row) rows)

abbrev pub items_of : (ℕ → List (Option PlacedPart)) → List SourceForm → ℕ → Option SourceForm → List (Option PlacedPart)
items_of inside sources n None = []
items_of inside sources n (Some s) = items_from inside sources (reader_at sources n s) (rows_of s)

-- the items of source n, in which sections may nest so deep that there are this many levels
unfoldable pub items_in : ℕ → List SourceForm → ℕ → List (Option PlacedPart)
items_in zero sources n = []
items_in (suc more) sources n = items_of (items_in more sources) sources n (slice_get sources n)

-- the parts among some items
abbrev pub parts_among : List (Option PlacedPart) → List PlacedPart
parts_among [] = []
parts_among (None ∷ items) = parts_among items
parts_among (Some p ∷ items) = if p.outside then parts_among items else p ∷ parts_among items

-- the bytes outside of the meaning among some items
abbrev pub asides_among : List (Option PlacedPart) → List (List ℕ)
asides_among [] = []
asides_among (None ∷ items) = asides_among items
asides_among (Some p ∷ items) = if p.outside then p.bytes ∷ asides_among items else asides_among items

-- the parts of an image at every level, each with its place: of the image, and of 8 levels of contents
abbrev pub placed_parts : LevelsForm → List PlacedPart
placed_parts levels = parts_among (items_in 9 levels.sources 0)

-- the parts without their places
abbrev pub parts_of : LevelsForm → List PartForm
parts_of levels = map (λ p. p.part) (placed_parts levels)

-- the bytes outside of the meaning of an image at every level, in order, except for erased bytes and headers
abbrev pub asides_of : LevelsForm → List (List ℕ)
asides_of levels = asides_among (items_in 9 levels.sources 0)
