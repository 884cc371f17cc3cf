-- The rows in a row are the deeper rows after it, and their leaf rows tile the row.
use Rattle.std.proofs.Common.{◌≡◌, ◌≤◌, ◌<◌, ℕ, ◌+◌, List, [], ◌∷◌, ◌++◌, Bool, true, false, refl, sym, ap, ◌∙◌, subst, arith, append_assoc, append-nil}
use Rattle.std.proofs.Common.{nat_lt, lt-ltb}
use Rattle.fv_base.proofs.Laws.{nat_tests}
use Rattle.fv_survey.specs.declared.row.Row.{Row}
use Rattle.fv_survey.specs.Words.{Bare, Follow, Forest, Nest, TileEach, Tree, is_leaf, leaves_of, rows_below, rows_of}
use Rattle.fv_survey.proofs.ForestLaws.{leaves_follow}

below_deeper : (depth : ℕ) (row : Row) (rows : List Row) → depth < row.depth → rows_below depth (row ∷ rows) ≡ row ∷ rows_below depth rows
below_deeper depth row rows l = let e : nat_lt depth row.depth ≡ true = grind (arith, lt-ltb) in rw e refl

below_end : (depth : ℕ) (row : Row) (rows : List Row) → row.depth ≤ depth → rows_below depth (row ∷ rows) ≡ []
below_end depth row rows l = let e : nat_lt depth row.depth ≡ false = grind (arith, nat_tests) in rw e refl

-- the rows of a deeper forest, and what comes after it
below_forest : (depth at from to : ℕ) (f : Forest) (rows : List Row) → depth < at → Nest at from to f
    → rows_below depth (rows_of f ++ rows) ≡ rows_of f ++ rows_below depth rows
below_forest depth at from to Bare rows l n = refl
below_forest depth at from to (Tree row below after) rows l (d, o, some, leaf, node, rest) =
    below_deeper depth row (rows_of below ++ rows_of after ++ rows) (omega (arith, l, d))
    ∙ ap (λ k. row ∷ k) (ap (rows_below depth) (append_assoc (rows_of below) (rows_of after) rows)
    ∙ go (is_leaf row.kind) refl (λ e. below_forest depth (at + 1) from (from + row.length) below (rows_of after ++ rows) (omega (arith, l)) (node e))
    ∙ ap (λ k. rows_of below ++ k) (below_forest depth at (from + row.length) to after rows l rest)
    ∙ sym (append_assoc (rows_of below) (rows_of after) (rows_below depth rows)))
  where
    go : (v : Bool) → is_leaf row.kind ≡ v
        → (is_leaf row.kind ≡ false → rows_below depth (rows_of below ++ (rows_of after ++ rows)) ≡ rows_of below ++ rows_below depth (rows_of after ++ rows))
        → rows_below depth (rows_of below ++ (rows_of after ++ rows)) ≡ rows_of below ++ rows_below depth (rows_of after ++ rows)
    go true e inner =
        let b : rows_of below ≡ [] = ap rows_of (leaf e) in
        ap (λ k. rows_below depth (k ++ (rows_of after ++ rows))) b ∙ ap (λ k. k ++ rows_below depth (rows_of after ++ rows)) (sym b)
    go false e inner = inner e

-- no deeper row begins the rows: none at a depth from `depth` on
abbrev pub Shallow : ℕ → List Row → Type 0
Shallow depth [] = Unit {0}
Shallow depth (row ∷ rows) = row.depth ≤ depth

below_shallow : (depth : ℕ) (rows : List Row) → Shallow depth rows → rows_below depth rows ≡ []
below_shallow depth [] s = refl
below_shallow depth (row ∷ rows) s = below_end depth row rows s

shallow_forest : (depth from to : ℕ) (f : Forest) (rows : List Row) → Nest depth from to f → Shallow depth rows → Shallow depth (rows_of f ++ rows)
shallow_forest depth from to Bare rows n s = s
shallow_forest depth from to (Tree row below after) rows n s = omega (arith, n.0)

shallow_more : (depth : ℕ) (rows : List Row) → Shallow depth rows → Shallow (depth + 1) rows
shallow_more depth [] s = tt
shallow_more depth (row ∷ rows) s = omega (arith, s)

pub tile_each : (depth from to : ℕ) (f : Forest) (rows : List Row) → Nest depth from to f → Shallow depth rows → TileEach rows
    → TileEach (rows_of f ++ rows)
tile_each depth from to Bare rows n s t = t
tile_each depth from to (Tree row below after) rows (d, o, some, leaf, node, rest) s t =
    let more : TileEach (rows_of after ++ rows) = tile_each depth (from + row.length) to after rows rest s t in
    let flat : Shallow depth (rows_of after ++ rows) = shallow_forest depth (from + row.length) to after rows rest s in
    go (is_leaf row.kind) refl more flat
    (λ e. tile_each (depth + 1) from (from + row.length) below (rows_of after ++ rows) (node e) (shallow_more depth (rows_of after ++ rows) flat) more)
  where
    all : rows_of below ++ rows_of after ++ rows ≡ rows_of below ++ (rows_of after ++ rows)
    all = append_assoc (rows_of below) (rows_of after) rows

    go : (v : Bool) → is_leaf row.kind ≡ v → TileEach (rows_of after ++ rows) → Shallow depth (rows_of after ++ rows)
        → (is_leaf row.kind ≡ false → TileEach (rows_of below ++ (rows_of after ++ rows))) → TileEach (rows_of (Tree row below after) ++ rows)
    go true e more flat inner =
        let b : rows_of below ≡ [] = ap rows_of (leaf e) in
        let same : rows_of below ++ rows_of after ++ rows ≡ rows_of after ++ rows = all ∙ ap (λ k. k ++ (rows_of after ++ rows)) b in (
          λ n. let bad : true ≡ false = sym e ∙ n in cc,
          λ _. ap (λ k. rows_below k (rows_of below ++ rows_of after ++ rows)) d ∙ ap (rows_below depth) same
              ∙ below_shallow depth (rows_of after ++ rows) flat,
          subst TileEach (sym same) more,
        )
    go false e more flat inner =
        let inside : rows_below row.depth (rows_of below ++ rows_of after ++ rows) ≡ rows_of below =
        ap (λ k. rows_below k (rows_of below ++ rows_of after ++ rows)) d ∙ ap (rows_below depth) all
        ∙ below_forest depth (depth + 1) from (from + row.length) below (rows_of after ++ rows) (omega arith) (node e)
        ∙ ap (λ k. rows_of below ++ k) (below_shallow depth (rows_of after ++ rows) flat) ∙ append-nil (rows_of below) in
        let tiles : Follow row.offset (row.offset + row.length) (leaves_of (rows_of below)) =
        subst (λ k. Follow k (k + row.length) (leaves_of (rows_of below))) (sym o)
        (leaves_follow (depth + 1) from (from + row.length) below (node e)) in (
          λ _. subst (λ k. Follow row.offset (row.offset + row.length) (leaves_of k)) (sym inside) tiles,
          λ n. let bad : true ≡ false = sym n ∙ e in cc,
          subst TileEach (sym all) (inner e),
        )

-- the rows of a whole forest
pub tile_all : (to : ℕ) (f : Forest) → Nest 0 0 to f → TileEach (rows_of f)
tile_all to f n = subst TileEach (append-nil (rows_of f)) (tile_each 0 0 to f [] n tt tt)
