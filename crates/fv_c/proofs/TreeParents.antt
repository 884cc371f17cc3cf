-- Proves that the rows with the parent n are exactly the rows of the parts that row n holds, in order (`held_are`), and
-- that only the first row has no holder (`first_is`). The steps:
-- 1. `held_from` lists the rows of the parts that row k holds, if row k is one of some rows. If row k is row i of these
--    rows, the list is `rows_held` of this row (`held_at`).
-- 2. `Under` states which of the rows of consecutive parts have the parent k: the rows of these parts, if row k is
--    their parent, and the rows in `held_from`. `Under` is true of the rows of any parts (`under_nodes`).
-- 3. So `Under` is true of the rows inside a volume, whose parent is the first row (`under_volume`).
use Rattle.std.proofs.Common.{◌≡◌, ◌∙◌, ℕ, ◌+◌, ◌<◌, ◌≤◌, List, [], ◌∷◌, ◌++◌, length, true, false, cond, refl, sym, ap}
use Rattle.std.proofs.Common.{append-nil, append_assoc, arith, le_refl, length-append, suc, zero}
use Rattle.std.proofs.lemmas.Bool.{cond_both, eq-eqb, eqb-true, ne_eqb}
use Rattle.std.proofs.lemmas.List.Elements.{filter-append}
use Rattle.std.specs.List.{filter}
use Rattle.std.specs.Prelude.{◌==◌, Bool, slice_get}
use Rattle.fv_tree.specs.Words.{Meaning, Volume}
use Rattle.fv_rows.specs.Words.{NodeMeaning, VolumeNode, parts_in, TreeRow as Row, nesting_inside, rows_inside, rows_of_nodes}
use Rattle.fv_rows.specs.Words.{tree_rows as rows_of}
use Rattle.fv_rows.proofs.Laws.{inside_rows}
use Rattle.fv_c.specs.TreeParts.{NodeRow, is_first, is_held_by, no_parent, node_rows, parent_of, rows_held, rows_of_parts, with_parents}
use Rattle.fv_c.specs.inner.Trees.{depths_after}

-- ---- joined rows

pub depths_joined : (before : List ℕ) (a b : List Row) → depths_after (a ++ b) before ≡ depths_after b (depths_after a before)
depths_joined before [] b = refl
depths_joined before (r ∷ a) b = depths_joined (r.depth ∷ before) a b

pub parents_joined : (before : List ℕ) (a b : List Row)
    → with_parents before (a ++ b) ≡ with_parents before a ++ with_parents (depths_after a before) b
parents_joined before [] b = refl
parents_joined before (r ∷ a) b = rw (parents_joined (r.depth ∷ before) a b)

-- ---- the parts that a row holds

-- the rows of the parts that row k holds, if it is one of these rows. `before` are the depths of the rows before them
abbrev held_from : ℕ → List ℕ → List Row → List NodeRow
held_from k before [] = []
held_from k before (r ∷ rows) =
    cond (length before == k) (rows_of_parts (length before) (r.depth + 1) 0 (parts_in r.node)) [] ++ held_from k (r.depth ∷ before) rows

held_joined : (k : ℕ) (before : List ℕ) (a b : List Row)
    → held_from k before (a ++ b) ≡ held_from k before a ++ held_from k (depths_after a before) b
held_joined k before [] b = refl
held_joined k before (r ∷ a) b = rw (held_joined k (r.depth ∷ before) a b) (sym (append_assoc _ (held_from k (r.depth ∷ before) a) _))

-- if row k is before these rows, none of them is row k
held_none : (k : ℕ) (before : List ℕ) (rows : List Row) → k < length before → held_from k before rows ≡ []
held_none k before [] l = refl
held_none k before (r ∷ rows) l =
    rw (ne_eqb (length before) k (λ e. omega arith)) (held_none k (r.depth ∷ before) rows (omega arith))

-- if row k is row i of these rows, `held_from` lists the rows of the parts that row i holds
held_at : (k i : ℕ) (before : List ℕ) (rows : List Row) → k ≡ length before + i
    → held_from k before rows ≡ rows_held k (slice_get (with_parents before rows) i)
held_at k i before [] is = refl
held_at k zero before (r ∷ rows) is =
    let same : length before ≡ k = omega arith in
    rw (eq-eqb (length before) k same, held_none k (r.depth ∷ before) rows (omega arith), same) (append-nil _)
held_at k (suc i) before (r ∷ rows) is =
    rw (ne_eqb (length before) k (λ e. omega arith)) (held_at k i (r.depth ∷ before) rows (omega arith))

-- ---- the parents

-- a row at this depth, or deeper, does not change the parent of a later row
same_above : (depth d : ℕ) (before : List ℕ) → depth ≤ d → parent_of depth (d ∷ before) ≡ parent_of depth before
same_above depth d before l = rw (ne_eqb (d + 1) depth (λ e. omega arith))

-- the parent of a row is the row right before it, if that row is one less deep
pub next_parent : (depth : ℕ) (before : List ℕ) → parent_of (depth + 1) (depth ∷ before) ≡ length before
next_parent depth before = rw (ne_eqb (depth + 1) 0 (λ e. omega arith), eq-eqb (depth + 1) (depth + 1) refl)

-- a property of the rows of consecutive parts at this depth. `before` are the depths of the rows before them. The rows
-- do not change the parent of a later row that is not deeper than the parts (`later`). Each of the rows has a holder
-- (`first`). The rows with the parent k are the rows of the parts, if k is their parent, and the rows that `held_from`
-- lists (`held`)
record Under (depth number : ℕ) (before : List ℕ) (nodes : List NodeMeaning) (rows : List Row) : Type 0 where
  long : length before ≤ length (depths_after rows before)
  later : (d : ℕ) → d ≤ depth → parent_of d (depths_after rows before) ≡ parent_of d before
  first : 1 ≤ depth → filter is_first (with_parents before rows) ≡ []
  held : (parent k : ℕ) → 1 ≤ depth → parent_of depth before ≡ parent → parent < length before → filter (is_held_by k) (with_parents before rows)
      ≡ cond (parent == k) (rows_of_parts parent depth number nodes) [] ++ held_from k before rows

-- the order of the rows that row k holds. If row k holds the row r (`t` is true), row k holds none of the rows inside r
-- (a and b). The rows c and d come after the rows inside r
in_order : (t : Bool) (r : NodeRow) (a b c d : List NodeRow) → (t ≡ true → (a ≡ []) × (b ≡ []))
    → cond t (r ∷ (a ++ b) ++ (cond t c [] ++ d)) ((a ++ b) ++ (cond t c [] ++ d)) ≡ cond t (r ∷ c) [] ++ (a ++ (b ++ d))
in_order true r a b c d none = rw ((none refl).0, (none refl).1)
in_order false r a b c d none = append_assoc a b d

-- `Under` is true of the rows of any parts. `most` is at least the number of the rows
under_nodes : (most depth nesting number : ℕ) (before : List ℕ) (nodes : List NodeMeaning)
    → length (rows_of_nodes depth nesting number nodes) ≤ most → Under depth number before nodes (rows_of_nodes depth nesting number nodes)
under_nodes most depth nesting number before [] few = record {
  long = omega arith;
  later = λ d l. refl;
  first = λ l. refl;
  held = λ parent k l is small. cond_both (parent == k) [] [] (λ (rows : List NodeRow). [] ≡ rows ++ []) (λ _. refl) (λ _. refl);
}
under_nodes zero depth nesting number before (node ∷ nodes) few = absurd (omega (arith, few))
under_nodes (suc most) depth nesting number before (node ∷ nodes) few =
    let inside : List Row = rows_inside (depth + 1) (nesting_inside nesting node) node in
    let rest : List Row = rows_of_nodes depth nesting (number + 1) nodes in
    let own = inside_rows (depth + 1) (nesting_inside nesting node) node in
    let long = length-append inside rest in
    let first : Under (depth + 1) 0 (depth ∷ before) (parts_in node) inside =
    rw own (under_nodes most (depth + 1) (nesting_inside nesting node) 0 (depth ∷ before) (parts_in node) (omega (arith, few, long, ap length own))) in
    let more = under_nodes most depth nesting (number + 1) (depths_after inside (depth ∷ before)) nodes (omega (arith, few, long)) in
    let above : (d : ℕ) → d ≤ depth → parent_of d (depths_after inside (depth ∷ before)) ≡ parent_of d before =
    λ d l. first.later d (omega arith) ∙ same_above d depth before l in record {
      long = rw depths_joined (omega (arith, first.long, more.long));
      later = λ d l. rw depths_joined (more.later d l ∙ above d l);
      first = λ l. rw (ne_eqb depth 0 (λ e. omega arith), parents_joined (depth ∷ before) inside rest)
          (rw (filter-append is_first, first.first (omega arith)) (more.first l));
      held = λ parent k l is small.
          rw (is, ne_eqb depth 0 (λ e. omega arith), parents_joined (depth ∷ before) inside rest, filter-append (is_held_by k))
          (rw (held_joined k (depth ∷ before) inside rest, first.held (length before) k (omega arith) (next_parent depth before) (omega arith))
          (rw (more.held parent k l (above depth (omega arith) ∙ is) (omega (arith, first.long, small)))
          (in_order (parent == k) _ _ (held_from k (depth ∷ before) inside) _ _ (λ e.
          let same : parent ≡ k = eqb-true parent k e in
          (rw (ne_eqb (length before) k (λ f. omega arith)), held_none k (depth ∷ before) inside (omega arith))))));
    }

-- the parent of a row is also the parent of a row at the same depth after the rows inside the row
pub later_parts : (depth nesting : ℕ) (before : List ℕ) (nodes : List NodeMeaning)
    → parent_of depth (depths_after (rows_of_nodes (depth + 1) nesting 0 nodes) (depth ∷ before)) ≡ parent_of depth before
later_parts depth nesting before nodes =
    (under_nodes _ (depth + 1) nesting 0 (depth ∷ before) nodes (le_refl _)).later depth (omega arith)
    ∙ same_above depth depth before (omega arith)

-- ---- the rows of a volume

under_volume : (m : Meaning) → Under 1 0 (0 ∷ []) (parts_in (VolumeNode m)) (rows_inside 1 0 (VolumeNode m))
under_volume m = rw (inside_rows 1 0 (VolumeNode m)) (under_nodes _ 1 0 0 (0 ∷ []) (parts_in (VolumeNode m)) (le_refl _))

pub first_is : (m : Meaning) → filter is_first (node_rows m) ≡ rows_of_parts no_parent 0 0 (VolumeNode m ∷ [])
first_is (Volume head files) = rw ((under_volume (Volume head files)).first (omega arith))

pub held_are : (m : Meaning) (n : ℕ) → filter (is_held_by n) (node_rows m) ≡ rows_held n (slice_get (node_rows m) n)
held_are (Volume head files) n =
    (under_volume (Volume head files)).held 0 n (omega arith) (next_parent 0 []) (omega arith) ∙ held_at n n [] (rows_of (Volume head files)) (omega arith)
