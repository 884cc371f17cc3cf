-- The items that a walk has left.
use Rattle.std.proofs.Common.{◌≡◌, ◌+◌, ℕ, zero, suc, List, [], ◌∷◌, ◌++◌, length, drop, Option, Some, None, slice_get, ap, sym, refl, ◌∙◌}
use Rattle.std.proofs.Common.{append_assoc, append-nil, arith, true, false, ap₂, option_to_list, ◌≤◌, length-append}
use Rattle.fv_levels.specs.Words.{SourceForm, rows_of}
use Rattle.fv_survey.specs.declared.row.Row.{Row}
use Rattle.fv_same.specs.Words.{PlacedPart, ReaderForm, comes_before, contents_of, count_before, items_from, items_in, items_of, part_of}
use Rattle.fv_same.specs.Words.{read_if, reader_after, reader_at}
use Rattle.fv_same.specs.inner.Readers.{reader_form}
use Rattle.fv_same.specs.inner.Walks.{items_left, stack_items, walk_items}
use Rattle.fv_same.specs.declared.walk.SourceWalk.{SourceWalk}

-- ---- the sources before the contents of a source

pub front_of : {X : Type 0} (xs : List X) (i : ℕ) (x : X) → slice_get xs i ≡ Some x → drop i xs ≡ x ∷ drop (i + 1) xs
front_of [] i x e = cc
front_of (y ∷ xs) zero x e = let same : y ≡ x = cc in ap (λ z. z ∷ xs) same
front_of (y ∷ xs) (suc i) x e = let same : suc i + 1 ≡ suc (i + 1) = omega arith in rw same (front_of xs i x e)

pub count_stops : (n : ℕ) (sources : List SourceForm) (i : ℕ) (s : SourceForm) → slice_get sources i ≡ Some s
    → comes_before n s.origin ≡ false → count_before n (drop i sources) ≡ 0
count_stops n sources i s e f = rw (front_of sources i s e) (rw f refl)

pub count_goes_on : (n : ℕ) (sources : List SourceForm) (i : ℕ) (s : SourceForm) → slice_get sources i ≡ Some s
    → comes_before n s.origin ≡ true → count_before n (drop i sources) ≡ count_before n (drop (i + 1) sources) + 1
count_goes_on n sources i s e f = rw (front_of sources i s e) (rw f refl)

-- ---- the items of a source

pub items_none : (sources : List SourceForm) (n : ℕ) → items_in 0 sources n ≡ []
unfolding items_in
items_none sources n = refl

pub items_more : (more : ℕ) (sources : List SourceForm) (n : ℕ)
    → items_in (suc more) sources n ≡ items_of (items_in more sources) sources n (slice_get sources n)
unfolding items_in
items_more more sources n = refl

pub items_next : (more : ℕ) (sources : List SourceForm) (n : ℕ)
    → items_in (more + 1) sources n ≡ items_of (items_in more sources) sources n (slice_get sources n)
items_next more sources n = let e : more + 1 ≡ suc more = omega arith in rw e (items_more more sources n)

pub no_source : (more : ℕ) (sources : List SourceForm) (n : ℕ) → slice_get sources n ≡ None → [] ≡ items_in (more + 1) sources n
no_source more sources n e = sym (items_next more sources n ∙ ap (items_of (items_in more sources) sources n) e)

-- a walk that begins has the items of its source left
pub walk_begins : (sources : List SourceForm) (n room : ℕ) (x : ReaderForm) (rows : List Row) (s : SourceForm) → slice_get sources n ≡ Some s
    → x ≡ reader_at sources n s → rows ≡ rows_of s → items_from (items_in room sources) sources x rows ≡ items_in (room + 1) sources n
walk_begins sources n room x rows s e reader is =
    ap (λ (y : ReaderForm). items_from (items_in room sources) sources y rows) reader
    ∙ ap (items_from (items_in room sources) sources (reader_at sources n s)) is
    ∙ sym (items_next room sources n ∙ ap (items_of (items_in room sources) sources n) e)

-- ---- the stack

-- a source that is put on the stack is read first
pub stack_push : (sources : List SourceForm) (ws : List SourceWalk) (w : SourceWalk)
    → stack_items sources (ws ++ w ∷ []) ≡ items_left sources w ++ stack_items sources ws
stack_push sources [] w = sym (append-nil (items_left sources w))
stack_push sources (x ∷ ws) w =
    ap (λ l. l ++ items_left sources x) (stack_push sources ws w)
    ∙ append_assoc (items_left sources w) (stack_items sources ws) (items_left sources x)

-- a source without rows says nothing
pub stack_over : (sources : List SourceForm) (ws : List SourceWalk) (w : SourceWalk) → w.rows ≡ []
    → stack_items sources (ws ++ w ∷ []) ≡ stack_items sources ws
stack_over sources ws w e =
    stack_push sources ws w
    ∙ ap (λ rows. items_from (items_in w.room sources) sources (reader_form w.reader) rows ++ stack_items sources ws) e

-- the first row, and what is left after it
pub stack_row : (sources : List SourceForm) (ws : List SourceWalk) (w v : SourceWalk) (row : Row) → w.rows ≡ row ∷ v.rows
    → v.room ≡ w.room → reader_form v.reader ≡ reader_after sources (reader_form w.reader) row
    → stack_items sources (ws ++ w ∷ []) ≡ part_of sources (reader_form w.reader) row
    ∷ (read_if (items_in w.room sources) (contents_of sources (reader_form w.reader) row) ++ stack_items sources (ws ++ v ∷ []))
stack_row sources ws w v row rows room after =
    let part : Option PlacedPart = part_of sources (reader_form w.reader) row in
    let inner : List (Option PlacedPart) = read_if (items_in w.room sources) (contents_of sources (reader_form w.reader) row) in
    let later : List (Option PlacedPart) =
    items_from (items_in w.room sources) sources (reader_after sources (reader_form w.reader) row) v.rows in
    let left : later ≡ items_left sources v =
    ap (λ (x : ReaderForm). items_from (items_in w.room sources) sources x v.rows) (sym after)
    ∙ ap (λ n. items_from (items_in n sources) sources (reader_form v.reader) v.rows) (sym room) in
    stack_push sources ws w
    ∙ ap (λ l. items_from (items_in w.room sources) sources (reader_form w.reader) l ++ stack_items sources ws) rows
    ∙ ap (λ l. part ∷ l) (append_assoc inner later (stack_items sources ws)
    ∙ ap (λ l. inner ++ (l ++ stack_items sources ws)) left
    ∙ ap (λ l. inner ++ l) (sym (stack_push sources ws v)))

-- the contents of a section are put on the stack, if there are any
pub stack_put : (sources : List SourceForm) (ws : List SourceWalk) (inner : Option SourceWalk)
    → stack_items sources (ws ++ option_to_list inner) ≡ walk_items sources inner ++ stack_items sources ws
stack_put sources ws None = ap (stack_items sources) (append-nil ws)
stack_put sources ws (Some w) = stack_push sources ws w

pub length_push : (ws : List SourceWalk) (w : SourceWalk) → length (ws ++ w ∷ []) ≡ length ws + 1
length_push ws w = length-append ws (w ∷ [])

pub length_put : (ws : List SourceWalk) (inner : Option SourceWalk) → length (ws ++ option_to_list inner) ≤ length ws + 1
length_put ws None = omega (arith, ap length (append-nil ws))
length_put ws (Some w) = omega (arith, length_push ws w)

-- a step over a row
pub stack_step : (sources : List SourceForm) (ws new : List SourceWalk) (w v : SourceWalk) (inner : Option SourceWalk) (row : Row)
    (part : Option PlacedPart) (contents : Option ℕ) → w.rows ≡ row ∷ v.rows → v.room ≡ w.room
    → reader_form v.reader ≡ reader_after sources (reader_form w.reader) row → part ≡ part_of sources (reader_form w.reader) row
    → contents ≡ contents_of sources (reader_form w.reader) row → walk_items sources inner ≡ read_if (items_in w.room sources) contents
    → new ≡ (ws ++ v ∷ []) ++ option_to_list inner
    → (stack_items sources (ws ++ w ∷ []) ≡ part ∷ stack_items sources new) × (length new ≤ length ws + 2)
stack_step sources ws new w v inner row part contents rows room after is holds items put = (
  stack_row sources ws w v row rows room after
      ∙ ap₂ (λ (p : Option PlacedPart) (l : List (Option PlacedPart)). p ∷ (l ++ stack_items sources (ws ++ v ∷ []))) (sym is)
      (ap (read_if (items_in w.room sources)) (sym holds) ∙ sym items)
      ∙ ap (λ (l : List (Option PlacedPart)). part ∷ l) (sym (ap (stack_items sources) put ∙ stack_put sources (ws ++ v ∷ []) inner)),
  omega (arith, ap length put, length_put (ws ++ v ∷ []) inner, length_push ws v),
)
