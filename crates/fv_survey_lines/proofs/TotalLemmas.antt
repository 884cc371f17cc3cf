-- The totals of rows: one more row (`totals_next`), no number overflows (`has_room`), and the numbers of bytes of all
-- kinds add up to the number of bytes that the rows account for (`add_up`).
use Rattle.std.proofs.Common.{◌≡◌, ◌≤◌, ◌<◌, ◌+◌, ◌^◌, ◌==◌, ◌&&◌, ℕ, List, [], ◌∷◌, ◌++◌, Bool, true, false, length, map, refl, sym, ap, ◌∙◌}
use Rattle.std.proofs.Common.{arith, if◌then◌else◌, length-append, get_or, suc}
use Rattle.fv_base.proofs.Laws.{nat_tests}
use Rattle.std.specs.List.{count_by, sum_by}
use Rattle.std.proofs.Math.Nat.{add-zero, zero-add}
use Rattle.std.proofs.lemmas.List.Sums.{count_by-le-length, get_or-le-sum_by, sum_by-append, sum_by-cons, sum_by_push}
use Rattle.std.proofs.lemmas.List.{get_or-map}
use Rattle.std.proofs.lemmas.List.Folds.{list_all-append}
use Rattle.fv_survey.proofs.Laws.{few, tiling}
use Rattle.fv_survey.specs.Words.{Follow, Tile, is_leaf, leaves_of, survey_of}
use Rattle.fv_survey.specs.declared.row.Row.{Row}
use Rattle.fv_survey.specs.declared.row.RowKind.{RowKind}
use Rattle.fv_survey.specs.declared.row.RowKind.TheVariants as kinds
use Rattle.fv_survey_lines.specs.Words.{AccountFor, bytes_of_kind, has_other_findings, is_clean, is_marked_only, is_sound, leaf_kinds, leaf_number}
use Rattle.fv_survey_lines.specs.inner.Totalled.{HasRoom, sum_in, sums_of, sums_with, totals_of, totals_with}

-- ---- one more row

-- the bytes of a row if it has this kind
abbrev bytes_in : RowKind → ℕ → RowKind → ℕ
bytes_in has n kind = if leaf_number has == leaf_number kind then n else 0

-- to add n bytes of a kind to each sum, as far as they are of its kind, is to add them to the sum of this kind
placed : (has : RowKind) (n : ℕ) (g : RowKind → ℕ) → map (λ kind. g kind + bytes_in has n kind) leaf_kinds
    ≡ sums_with (leaf_number has) n (map g leaf_kinds)
placed kinds.VolumeHeader n g = simp add-zero
placed kinds.ExtHeader n g = simp add-zero
placed kinds.FileHeader n g = simp add-zero
placed kinds.SectionHeader n g = simp add-zero
placed kinds.Data n g = simp add-zero
placed kinds.Body n g = simp add-zero
placed kinds.Packed n g = simp add-zero
placed kinds.Pad n g = simp add-zero
placed kinds.PadData n g = simp add-zero
placed kinds.Dead n g = simp add-zero
placed kinds.Stub n g = simp add-zero
placed kinds.Free n g = simp add-zero
placed kinds.Filler n g = simp add-zero
placed kinds.Between n g = simp add-zero
placed kinds.Gap n g = simp add-zero
placed kinds.Store n g = simp add-zero
placed kinds.Unread n g = simp add-zero
placed _ n g = simp add-zero

sums_next : (rows : List Row) (row : Row) → sums_of (rows ++ row ∷ []) ≡ sums_with (leaf_number row.kind) row.length (sums_of rows)
sums_next rows row =
    simp (sum_by_push {X = Row}) (placed row.kind row.length (λ kind. bytes_of_kind kind rows))

count_next : (p : Row → Bool) (rows : List Row) (row : Row) → count_by p (rows ++ row ∷ []) ≡ count_by p rows + (if p row then 1 else 0)
count_next p rows row = sum_by_push (λ r. if p r then 1 else 0) rows row

clean_next : (rows : List Row) (row : Row) → is_clean (rows ++ row ∷ []) ≡ (is_clean rows && is_sound row)
clean_next rows row = grind (arith, list_all-append)

pub totals_next : (rows : List Row) (row : Row) → totals_of (rows ++ row ∷ []) ≡ totals_with (totals_of rows) row
totals_next rows row =
    rw (
      sums_next rows row,
      count_next (λ r. has_other_findings r.findings) rows row,
      count_next (λ r. is_marked_only r.findings) rows row,
      clean_next rows row,
    ) refl

-- ---- the bytes of all leaf rows

-- the number of bytes in the leaf rows
abbrev leaf_bytes : List Row → ℕ
leaf_bytes rows = sum_by (λ row. row.length) (leaves_of rows)

-- rows that follow one another have as many bytes as lie between their ends
follow_sum : (rows : List Row) (at to : ℕ) → Follow at to rows → at + sum_by (λ row. row.length) rows ≡ to
follow_sum [] at to ends = rw (add-zero at) ends
follow_sum (row ∷ rows) at to (_, rest) =
    omega (arith, sum_by-cons (λ (row : Row). row.length) row rows, follow_sum rows (at + row.length) to rest)

leaf_bytes_of : (n : ℕ) (rows : List Row) → Tile n rows → leaf_bytes rows ≡ n
leaf_bytes_of n rows tile = omega (arith, follow_sum (leaves_of rows) 0 n tile)

-- n bytes of a kind are counted once if this is a kind of leaf rows
counted : (has : RowKind) (n : ℕ) → sum_by (bytes_in has n) leaf_kinds ≡ (if is_leaf has then n else 0)
counted kinds.VolumeHeader n = omega arith
counted kinds.ExtHeader n = omega arith
counted kinds.FileHeader n = omega arith
counted kinds.SectionHeader n = omega arith
counted kinds.Data n = omega arith
counted kinds.Body n = omega arith
counted kinds.Packed n = omega arith
counted kinds.Pad n = omega arith
counted kinds.PadData n = omega arith
counted kinds.Dead n = omega arith
counted kinds.Stub n = omega arith
counted kinds.Free n = omega arith
counted kinds.Filler n = omega arith
counted kinds.Between n = omega arith
counted kinds.Gap n = omega arith
counted kinds.Store n = omega arith
counted kinds.Unread n = omega arith
counted _ n = omega arith

-- the sum of two sums, item for item
sum_both : {X : Type 0} (f g : X → ℕ) (xs : List X) → sum_by (λ x. f x + g x) xs ≡ sum_by f xs + sum_by g xs
sum_both f g [] = refl
sum_both f g (x ∷ xs) =
    omega (arith, sum_by-cons (λ x. f x + g x) x xs, sum_by-cons f x xs, sum_by-cons g x xs, sum_both f g xs)

-- the bytes of the leaf rows, one row first
leaf_cons : (row : Row) (rows : List Row) → leaf_bytes (row ∷ rows) ≡ (if is_leaf row.kind then row.length else 0) + leaf_bytes rows
leaf_cons row rows = go (is_leaf row.kind) where
  go : (v : Bool) → sum_by (λ row. row.length) (if v then row ∷ leaves_of rows else leaves_of rows)
      ≡ (if v then row.length else 0) + leaf_bytes rows
  go true = sum_by-cons (λ (row : Row). row.length) row (leaves_of rows)
  go false = sym (zero-add (leaf_bytes rows))

-- each byte of the leaf rows is counted once
all_counted : (rows : List Row) → sum_by (λ kind. bytes_of_kind kind rows) leaf_kinds ≡ leaf_bytes rows
all_counted [] = refl
all_counted (row ∷ rows) =
    let split : sum_by (λ kind. bytes_of_kind kind (row ∷ rows)) leaf_kinds
    ≡ sum_by (λ kind. bytes_in row.kind row.length kind + bytes_of_kind kind rows) leaf_kinds =
    simp (sum_by-cons {X = Row}) refl in
    split ∙ (sum_both (bytes_in row.kind row.length) (λ kind. bytes_of_kind kind rows) leaf_kinds
    ∙ (rw (counted row.kind row.length, all_counted rows) (sym (leaf_cons row rows))))

pub add_up : (n : ℕ) (rows : List Row) → AccountFor n rows → sum_by (λ kind. bytes_of_kind kind rows) leaf_kinds ≡ n
add_up n rows account = all_counted rows ∙ leaf_bytes_of n rows account.tile

-- the rows of the survey of an image account for its bytes
pub image_account : (image : List ℕ) → length image < 2 ^ 63 → AccountFor (length image) (survey_of image)
image_account image room = record { room = room; tile = tiling image room; few = few image }

-- ---- no number overflows

-- the kind at the place of a kind of leaf rows is this kind
kind_at : (kind : RowKind) → get_or leaf_kinds (leaf_number kind) kind ≡ kind
kind_at kinds.VolumeHeader = refl
kind_at kinds.ExtHeader = refl
kind_at kinds.FileHeader = refl
kind_at kinds.SectionHeader = refl
kind_at kinds.Data = refl
kind_at kinds.Body = refl
kind_at kinds.Packed = refl
kind_at kinds.Pad = refl
kind_at kinds.PadData = refl
kind_at kinds.Dead = refl
kind_at kinds.Stub = refl
kind_at kinds.Free = refl
kind_at kinds.Filler = refl
kind_at kinds.Between = refl
kind_at kinds.Gap = refl
kind_at kinds.Store = refl
kind_at kinds.Unread = refl
kind_at _ = refl

-- the sum of a kind of leaf rows is among the sums
sum_at : (kind : RowKind) (g : RowKind → ℕ) → leaf_number kind < 17 → sum_in (map g leaf_kinds) kind ≡ g kind
sum_at kind g leaf = rw (get_or-map g leaf_kinds (leaf_number kind) kind 0 leaf) (ap g (kind_at kind))

-- and is at most the sum of all
at_most_all : (kind : RowKind) (g : RowKind → ℕ) → leaf_number kind < 17 → g kind ≤ sum_by g leaf_kinds
at_most_all kind g leaf = rw (kind_at kind) at (get_or-le-sum_by g leaf_kinds (leaf_number kind) kind leaf)

own_bytes : (kind : RowKind) (n : ℕ) → bytes_in kind n kind ≡ n
own_bytes kind n =
    let same : (leaf_number kind == leaf_number kind) ≡ true = grind (arith, nat_tests) in
    ap (λ v. if v then n else 0) same

-- a kind has at least the bytes of the first rows and of the next row
kind_grows : (kind : RowKind) (rows left : List Row) (row : Row)
    → bytes_of_kind kind rows + bytes_in row.kind row.length kind ≤ bytes_of_kind kind (rows ++ row ∷ left)
kind_grows kind rows left row =
    omega (
      arith,
      sum_by-append (λ (r : Row). bytes_in r.kind r.length kind) rows (row ∷ left),
      sum_by-cons (λ (r : Row). bytes_in r.kind r.length kind) row left,
    )

pub has_room : (n : ℕ) (whole rows left : List Row) (row : Row) → AccountFor n whole → rows ++ row ∷ left ≡ whole
    → HasRoom (totals_of rows) row
has_room n whole rows left row account all =
    let long : length rows + suc (length left) ≡ length whole = sym (length-append rows (row ∷ left)) ∙ ap length all in
    record {
      sum = λ leaf.
          let grows = rw (own_bytes row.kind row.length, all) at (kind_grows row.kind rows left row) in
          let most = at_most_all row.kind (λ kind. bytes_of_kind kind whole) leaf in
          rw (sum_at row.kind (λ kind. bytes_of_kind kind rows) leaf) (omega (arith, grows, most, add_up n whole account, account.room));
      findings = omega (arith, count_by-le-length (λ r. has_other_findings r.findings) rows, long, account.few, account.room);
      fixed = omega (arith, count_by-le-length (λ r. is_marked_only r.findings) rows, long, account.few, account.room);
    }
