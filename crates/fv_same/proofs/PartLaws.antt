-- Laws of the parts: rows that do not count have no parts, and how a section is packed does not count.
use Rattle.std.proofs.Common.{◌≡◌, ◌+◌, ◌<◌, ◌≤◌, ℕ, zero, suc, List, [], ◌∷◌, ◌++◌, length, take, Option, Some, None, Bool, true, false, slice_get}
use Rattle.std.proofs.Common.{if◌then◌else◌, ◌&&◌, ◌==◌, not, nat_lt, ap, ap₂, sym, refl, subst, ◌∙◌, append_assoc, arith}
use Rattle.std.proofs.lemmas.Bool.{le-ltb}
use Rattle.std.proofs.lemmas.Option.{slice_get_within}
use Rattle.std.specs.BTreeMap.{is_at}
use Rattle.std.specs.List.{list_any}
use Rattle.fv_base.specs.declared.flash.Polarity.{Polarity}
use Rattle.fv_file.specs.Words.{file_type_at, is_valid_state, pad_kind}
use Rattle.fv_levels.specs.Words.{SourceForm}
use Rattle.fv_survey.specs.Words.{Bare, Forest, Nest, Tree, is_leaf}
use Rattle.fv_survey.specs.Words.{is_file, sort_by}
use Rattle.fv_survey.specs.Words.{rows_of as rows_in_forest}
use Rattle.fv_survey.specs.declared.row.Row.{Row}
use Rattle.fv_survey.specs.declared.row.RowKind.TheVariants as kinds
use Rattle.fv_same.specs.Words.{is_aside}
use Rattle.fv_same.specs.Words.{around_after, around_in, around_at, bytes_of_row, file_role, file_size, role_as, state_by, is_outside, role_of}
use Rattle.fv_same.specs.Words.{PlacedPart, ReaderForm, contents_of, contents_with, is_opened_row, items_from, part_as, part_of, part_with, parts_among}
use Rattle.fv_same.specs.Words.{read_if, reader_after}
use Rattle.fv_same.specs.Words.{NameKey, file_counts, is_superseded, key_cmp, named_row, role_in}
use Rattle.fv_same.specs.declared.meant.Around.{Around}
use Rattle.fv_same.specs.declared.meant.Around.TheVariants as arounds
use Rattle.fv_same.specs.declared.meant.Role.{Role}
use Rattle.fv_same.specs.declared.meant.Role.TheVariants as roles

-- ---- lists of items

pub put_if : (outside : Bool) (p : PlacedPart) (l xs ys : List PlacedPart) → l ≡ xs ++ ys
    → (if outside then l else p ∷ l) ≡ (if outside then xs else p ∷ xs) ++ ys
put_if true p l xs ys e = e
put_if false p l xs ys e = ap (λ m. p ∷ m) e

pub skip_if : (aside : Bool) (p : PlacedPart) (items : List (Option PlacedPart)) → p.outside ≡ true
    → parts_among ((if aside then Some p else None) ∷ items) ≡ parts_among items
skip_if true p items e = rw e refl
skip_if false p items e = refl

pub parts_append : (xs ys : List (Option PlacedPart)) → parts_among (xs ++ ys) ≡ parts_among xs ++ parts_among ys
parts_append [] ys = refl
parts_append (None ∷ xs) ys = parts_append xs ys
parts_append (Some p ∷ xs) ys = put_if p.outside p (parts_among (xs ++ ys)) (parts_among xs) (parts_among ys) (parts_append xs ys)

-- the source after some rows
abbrev pub after_rows : List SourceForm → ReaderForm → List Row → ReaderForm
after_rows sources x [] = x
after_rows sources x (row ∷ rows) = after_rows sources (reader_after sources x row) rows

pub after_append : (sources : List SourceForm) (x : ReaderForm) (xs ys : List Row)
    → after_rows sources x (xs ++ ys) ≡ after_rows sources (after_rows sources x xs) ys
after_append sources x [] ys = refl
after_append sources x (row ∷ xs) ys = after_append sources (reader_after sources x row) xs ys

pub items_append : (inside : ℕ → List (Option PlacedPart)) (sources : List SourceForm) (x : ReaderForm) (xs ys : List Row)
    → items_from inside sources x (xs ++ ys) ≡ items_from inside sources x xs ++ items_from inside sources (after_rows sources x xs) ys
items_append inside sources x [] ys = refl
items_append inside sources x (row ∷ xs) ys =
    let next : ReaderForm = reader_after sources x row in
    let inner : List (Option PlacedPart) = read_if inside (contents_of sources x row) in
    ap (λ l. part_of sources x row ∷ (inner ++ l)) (items_append inside sources next xs ys)
    ∙ ap (λ l. part_of sources x row ∷ l)
    (sym (append_assoc inner (items_from inside sources next xs) (items_from inside sources (after_rows sources next xs) ys)))

-- ---- rows outside of the meaning

-- a row that does not count has no part, and nothing is read after it
pub out_item : (inside : ℕ → List (Option PlacedPart)) (sources : List SourceForm) (x : ReaderForm) (row : Row) (rows : List Row)
    → role_in x.updates x.around x.bytes row ≡ roles.Out
    → parts_among (items_from inside sources x (row ∷ rows)) ≡ parts_among (items_from inside sources (reader_after sources x row) rows)
out_item inside sources x row rows out =
    let opened : Bool = is_opened_row sources x row in
    ap (λ (role : Role). parts_among (part_with role opened x row ∷ (read_if inside (contents_with role opened x.next)
    ++ items_from inside sources (reader_after sources x row) rows))) out
    ∙ skip_if (is_aside x.around x.bytes row) (part_as true x row row.kind (bytes_of_row x.bytes row))
    (items_from inside sources (reader_after sources x row) rows) refl

pub by_mark : (mark : Bool) (role : Role) → role ≡ roles.Out → (if mark then roles.Out else role) ≡ roles.Out
by_mark true role e = refl
by_mark false role e = e

-- a row in a row that does not count does not count
pub outside_out : (names : List NameKey) (around : List Around) (b : List ℕ) (row : Row) → is_outside (around_at around row.depth) ≡ true
    → role_in names around b row ≡ roles.Out
outside_out names around b row e = by_mark (is_superseded names (named_row around b row)) (role_of around b row) (rw e refl)

-- ---- what is around the rows

pub get_before : {X : Type 0} (xs ys : List X) (n i : ℕ) (x : X) → i < n → slice_get xs i ≡ Some x → slice_get (take n xs ++ ys) i ≡ Some x
get_before [] ys n i x l e = cc
get_before (y ∷ xs) ys zero i x l e = absurd (omega (arith, l))
get_before (y ∷ xs) ys (suc n) zero x l e = e
get_before (y ∷ xs) ys (suc n) (suc i) x l e = get_before xs ys n i x (omega (arith, l)) e

pub get_at : {X : Type 0} (xs : List X) (n : ℕ) (x : X) → n ≤ length xs → slice_get (take n xs ++ (x ∷ [])) n ≡ Some x
get_at xs zero x l = refl
get_at [] (suc n) x l = absurd (omega (arith, l))
get_at (y ∷ xs) (suc n) x l = get_at xs n x (omega (arith, l))

-- a row leaves what is around the rows that it is in
pub keeps_if : (leaf : Bool) (around : List Around) (depth i : ℕ) (a b : Around) → i < depth → slice_get around i ≡ Some a
    → slice_get (if leaf then around else take depth around ++ (b ∷ [])) i ≡ Some a
keeps_if true around depth i a b l e = e
keeps_if false around depth i a b l e = get_before around (b ∷ []) depth i a l e

-- the rows in a row: there are none, if it is a leaf row, and otherwise they nest in it
pub by_leaf : (leaf : Bool) (f : Forest) (P : Forest → Type 0) (N : Type 0) → P Bare → (leaf ≡ false → N → P f) → (leaf ≡ true → f ≡ Bare)
    → (leaf ≡ false → N) → P f
by_leaf true f P N bare go is nest = rw (is refl) bare
by_leaf false f P N bare go is nest = go refl (nest refl)

pub keeps : (sources : List SourceForm) (f : Forest) (x : ReaderForm) (depth from to i : ℕ) (a : Around) → Nest depth from to f → i < depth
    → slice_get x.around i ≡ Some a → slice_get (after_rows sources x (rows_in_forest f)).around i ≡ Some a
keeps sources Bare x depth from to i a nest l e = e
keeps sources (Tree row below after) x depth from to i a nest l e =
    let next : ReaderForm = reader_after sources x row in
    let within : i < row.depth = omega (arith, l, nest.0) in
    let here : slice_get next.around i ≡ Some a =
    keeps_if (is_leaf row.kind) x.around row.depth i a (around_in (role_in x.updates x.around x.bytes row)) within e in
    let inner : slice_get (after_rows sources next (rows_in_forest below)).around i ≡ Some a =
    by_leaf (is_leaf row.kind) below (λ g. slice_get (after_rows sources next (rows_in_forest g)).around i ≡ Some a)
    (Nest (depth + 1) from (from + row.length) below) here
    (λ _ n. keeps sources below next (depth + 1) from (from + row.length) i a n (omega (arith, l)) here) nest.3 nest.4 in
    rw (after_append sources next (rows_in_forest below) (rows_in_forest after))
    (keeps sources after (after_rows sources next (rows_in_forest below)) depth (from + row.length) to i a nest.5 l inner)

pub outside_in : (around : List Around) (row : Row) (role : Role) (d : ℕ) → is_leaf row.kind ≡ false → role ≡ roles.Out → row.depth ≡ d
    → d ≤ length around → slice_get (around_after around row role) d ≡ Some arounds.Outside
outside_in around row role d leaf out depth within = rw leaf (rw out (rw depth (get_at around d arounds.Outside within)))

-- the rows of a forest in a row that does not count have no parts
pub outside_says : (inside : ℕ → List (Option PlacedPart)) (sources : List SourceForm) (f : Forest) (x : ReaderForm) (d from to : ℕ)
    → Nest (suc d) from to f → slice_get x.around d ≡ Some arounds.Outside
    → parts_among (items_from inside sources x (rows_in_forest f)) ≡ []
outside_says inside sources Bare x d from to nest e = refl
outside_says inside sources (Tree row below after) x d from to nest e =
    let next : ReaderForm = reader_after sources x row in
    let first : List Row = rows_in_forest below in
    let middle : ReaderForm = after_rows sources next first in
    let out : role_in x.updates x.around x.bytes row ≡ roles.Out = outside_out x.updates x.around x.bytes row (rw nest.0 (rw e refl)) in
    let within : suc d ≤ length x.around = omega (arith, slice_get_within x.around d arounds.Outside e) in
    let here : slice_get next.around d ≡ Some arounds.Outside =
    keeps_if (is_leaf row.kind) x.around row.depth d arounds.Outside (around_in (role_in x.updates x.around x.bytes row))
    (omega (arith, nest.0)) e in
    let deeper : suc d + 1 ≡ suc (suc d) = omega arith in
    let inner : parts_among (items_from inside sources next first) ≡ [] =
    by_leaf (is_leaf row.kind) below (λ g. parts_among (items_from inside sources next (rows_in_forest g)) ≡ [])
    (Nest (suc d + 1) from (from + row.length) below) refl
    (λ leaf n. outside_says inside sources below next (suc d) from (from + row.length)
    (subst (λ k. Nest k from (from + row.length) below) deeper n)
    (outside_in x.around row (role_in x.updates x.around x.bytes row) (suc d) leaf out nest.0 within)) nest.3 nest.4 in
    let held : slice_get middle.around d ≡ Some arounds.Outside =
    by_leaf (is_leaf row.kind) below (λ g. slice_get (after_rows sources next (rows_in_forest g)).around d ≡ Some arounds.Outside)
    (Nest (suc d + 1) from (from + row.length) below) here
    (λ _ n. keeps sources below next (suc d + 1) from (from + row.length) d arounds.Outside n (omega arith) here) nest.3 nest.4 in
    out_item inside sources x row (first ++ rows_in_forest after) out
    ∙ ap parts_among (items_append inside sources next first (rows_in_forest after))
    ∙ parts_append (items_from inside sources next first) (items_from inside sources middle (rows_in_forest after))
    ∙ ap (λ l. l ++ parts_among (items_from inside sources middle (rows_in_forest after))) inner
    ∙ outside_says inside sources after middle d (from + row.length) to nest.5 held

-- a row that does not count and the rows in it have no parts
pub left_out : (inside : ℕ → List (Option PlacedPart)) (sources : List SourceForm) (x : ReaderForm) (row : Row) (below : Forest) (from to : ℕ)
    → role_in x.updates x.around x.bytes row ≡ roles.Out → row.depth ≤ length x.around → Nest (row.depth + 1) from to below
    → is_leaf row.kind ≡ false → parts_among (items_from inside sources x (row ∷ rows_in_forest below)) ≡ []
left_out inside sources x row below from to out within nest leaf =
    let deeper : row.depth + 1 ≡ suc row.depth = omega arith in
    out_item inside sources x row (rows_in_forest below) out
    ∙ outside_says inside sources below (reader_after sources x row) row.depth from to (subst (λ k. Nest k from to below) deeper nest)
    (outside_in x.around row (role_in x.updates x.around x.bytes row) row.depth leaf out refl within)

-- ---- pads, and packed sections

pub not_if : (x y : Bool) (role : Role) → (if x && (y && false) then role else roles.Out) ≡ roles.Out
not_if true true role = refl
not_if true false role = refl
not_if false y role = refl

pub pad_role : (parent : Option Around) (offset : ℕ) (r : List ℕ) → file_role parent 0xf0 offset r ≡ roles.Out
pad_role (Some (arounds.Volume start polarity)) offset r =
    not_if (not (nat_lt (length r) 24)) (is_valid_state (state_by polarity r)) (roles.Through (arounds.File offset (file_size r)))
pad_role (Some arounds.Outside) offset r = refl
pad_role (Some arounds.Covered) offset r = refl
pad_role (Some arounds.Store) offset r = refl
pad_role (Some (arounds.File start size)) offset r = refl
pad_role (Some arounds.Section) offset r = refl
pad_role (Some arounds.Lost) offset r = refl
pad_role None offset r = refl

pub pad_out : (names : List NameKey) (around : List Around) (b : List ℕ) (row : Row) → row.kind ≡ kinds.File → row.code ≡ 0xf0
    → role_in names around b row ≡ roles.Out
pad_out names around b row kind code =
    let own : role_as row.kind (around_at around row.depth) (slice_get around row.depth) row (bytes_of_row b row) ≡ roles.Out =
    rw kind (rw code (pad_role (around_at around row.depth) row.offset (bytes_of_row b row))) in
    by_mark (is_superseded names (named_row around b row)) (role_of around b row)
    (by_mark (is_outside (around_at around row.depth))
    (role_as row.kind (around_at around row.depth) (slice_get around row.depth) row (bytes_of_row b row)) own)

pub opened_says : (inside : ℕ → List (Option PlacedPart)) (sources : List SourceForm) (x : ReaderForm) (row : Row) (rows : List Row)
    → role_in x.updates x.around x.bytes row ≡ roles.Packed → is_opened_row sources x row ≡ true
    → parts_among (items_from inside sources x (row ∷ rows))
    ≡ part_as false x row kinds.Packed [] ∷ (parts_among (inside x.next) ++ parts_among (items_from inside sources (reader_after sources x row) rows))
opened_says inside sources x row rows packed opened =
    let later : List (Option PlacedPart) = items_from inside sources (reader_after sources x row) rows in
    ap₂ (λ (role : Role) (is : Bool). parts_among (part_with role is x row ∷ (read_if inside (contents_with role is x.next) ++ later))) packed opened
    ∙ ap (λ l. part_as false x row kinds.Packed [] ∷ l) (parts_append (inside x.next) later)

pub dead_if : (x y : Bool) (role : Role) → (if x && (false && y) then role else roles.Out) ≡ roles.Out
dead_if true y role = refl
dead_if false y role = refl

pub dead_role : (start : ℕ) (polarity : Polarity) (code offset : ℕ) (r : List ℕ) → is_valid_state (state_by polarity r) ≡ false
    → file_role (Some (arounds.Volume start polarity)) code offset r ≡ roles.Out
dead_role start polarity code offset r dead =
    rw dead (dead_if (not (nat_lt (length r) 24)) (not (code == 0xf0)) (roles.Through (arounds.File offset (file_size r))))

pub dead_out : (names : List NameKey) (around : List Around) (b : List ℕ) (row : Row) (start : ℕ) (polarity : Polarity)
    → row.kind ≡ kinds.File → around_at around row.depth ≡ Some (arounds.Volume start polarity)
    → is_valid_state (state_by polarity (bytes_of_row b row)) ≡ false → role_in names around b row ≡ roles.Out
dead_out names around b row start polarity kind parent dead =
    let own : role_as row.kind (around_at around row.depth) (slice_get around row.depth) row (bytes_of_row b row) ≡ roles.Out =
    rw kind (rw parent (dead_role start polarity row.code row.offset (bytes_of_row b row) dead)) in
    by_mark (is_superseded names (named_row around b row)) (role_of around b row)
    (by_mark (is_outside (around_at around row.depth))
    (role_as row.kind (around_at around row.depth) (slice_get around row.depth) row (bytes_of_row b row)) own)

pub superseded_out : (names : List NameKey) (around : List Around) (b : List ℕ) (row : Row) (name : NameKey)
    → named_row around b row ≡ Some (name, true) → list_any (is_at (key_cmp name)) names ≡ true → role_in names around b row ≡ roles.Out
superseded_out names around b row name named found =
    let marked : is_superseded names (named_row around b row) ≡ true = ap (is_superseded names) named ∙ found in
    ap (λ mark. if mark then roles.Out else role_of around b row) marked

pub as_sorted : {S : Type 0} (is : S → Bool) (p f d : S) (alive pad : Bool) → is p ≡ false → is f ≡ true → is d ≡ false
    → (alive && not pad) ≡ is (if alive then (if pad then p else f) else d)
as_sorted is p f d true true e g h = sym e
as_sorted is p f d true false e g h = sym g
as_sorted is p f d false pad e g h = sym h

pub surveyed : (polarity : Polarity) (r : List ℕ) → 24 ≤ length r → file_counts polarity (file_type_at r) r ≡ is_file (sort_by polarity r)
unfolding sort_by
surveyed polarity r long =
    let enough : nat_lt (length r) 24 ≡ false = le-ltb (length r) 24 long in
    ap (λ short. not short && (is_valid_state (state_by polarity r) && not (file_type_at r == pad_kind))) enough
    ∙ as_sorted is_file _ _ _ (is_valid_state (state_by polarity r)) (file_type_at r == pad_kind) refl refl refl
