-- The rows of a forest: how two forests are joined, where their trees lie, and that their leaf rows tile the bytes.
use Rattle.std.proofs.Common.{◌≡◌, ◌≤◌, ℕ, ◌+◌, List, [], ◌∷◌, ◌++◌, Bool, true, false, refl, sym, ap, ◌∙◌, subst, arith, append_assoc}
use Rattle.std.proofs.lemmas.List.Elements.{filter-append}
use Rattle.fv_survey.specs.declared.row.Row.{Row}
use Rattle.fv_survey.specs.Words.{Bare, Follow, Forest, Nest, Tree, is_leaf, leaves_of, rows_of}
use Rattle.fv_survey.specs.inner.Joining.{joined}

-- the rows of two joined forests
pub rows_joined : (f g : Forest) → rows_of (joined f g) ≡ rows_of f ++ rows_of g
rows_joined Bare g = refl
rows_joined (Tree row below after) g =
    ap (λ l. row ∷ l) (ap (λ l. rows_of below ++ l) (rows_joined after g) ∙ sym (append_assoc (rows_of below) (rows_of after) (rows_of g)))

-- two forests that follow one another
pub nest_joined : (depth from middle to : ℕ) (f g : Forest) → Nest depth from middle f → Nest depth middle to g
    → Nest depth from to (joined f g)
nest_joined depth from middle to Bare g e n = subst (λ k. Nest depth k to g) (sym e) n
nest_joined depth from middle to (Tree row below after) g (d, o, some, leaf, node, rest) n =
    (d, o, some, leaf, node, nest_joined depth (from + row.length) middle to after g rest n)

-- a forest does not end before it begins
pub nest_rises : (depth from to : ℕ) (f : Forest) → Nest depth from to f → from ≤ to
nest_rises depth from to Bare e = omega (arith, e)
nest_rises depth from to (Tree row below after) (d, o, some, leaf, node, rest) =
    omega (arith, nest_rises depth (from + row.length) to after rest)

-- a forest without bytes is empty
pub nest_none : (depth from to : ℕ) (f : Forest) → Nest depth from to f → to ≤ from → f ≡ Bare
nest_none depth from to Bare e l = refl
nest_none depth from to (Tree row below after) (d, o, some, leaf, node, rest) l =
    absurd (omega (arith, some, l, nest_rises depth (from + row.length) to after rest))

-- rows that follow one another
follow_joined : (from middle to : ℕ) (xs ys : List Row) → Follow from middle xs → Follow middle to ys → Follow from to (xs ++ ys)
follow_joined from middle to [] ys e n = subst (λ k. Follow k to ys) (sym e) n
follow_joined from middle to (x ∷ xs) ys (o, rest) n = (o, follow_joined (from + x.length) middle to xs ys rest n)

leaves_leaf : (r : Row) (rows : List Row) → is_leaf r.kind ≡ true → leaves_of (r ∷ rows) ≡ r ∷ leaves_of rows
leaves_leaf r rows e = rw e refl

leaves_node : (r : Row) (rows : List Row) → is_leaf r.kind ≡ false → leaves_of (r ∷ rows) ≡ leaves_of rows
leaves_node r rows e = rw e refl

-- the leaf rows of a forest tile its bytes
pub leaves_follow : (depth from to : ℕ) (f : Forest) → Nest depth from to f → Follow from to (leaves_of (rows_of f))
leaves_follow depth from to Bare e = e
leaves_follow depth from to (Tree row below after) (d, o, some, leaf, node, rest) =
    go (is_leaf row.kind) refl (λ e. leaves_follow (depth + 1) from (from + row.length) below (node e))
    (leaves_follow depth (from + row.length) to after rest)
  where
    split : leaves_of (rows_of below ++ rows_of after) ≡ leaves_of (rows_of below) ++ leaves_of (rows_of after)
    split = filter-append (λ (x : Row). is_leaf x.kind) (rows_of below) (rows_of after)

    go : (v : Bool) → is_leaf row.kind ≡ v → (is_leaf row.kind ≡ false → Follow from (from + row.length) (leaves_of (rows_of below)))
        → Follow (from + row.length) to (leaves_of (rows_of after)) → Follow from to (leaves_of (rows_of (Tree row below after)))
    go true e inner more =
        let none : leaves_of (rows_of below) ≡ [] = ap (λ g. leaves_of (rows_of g)) (leaf e) in
        let all : leaves_of (rows_of below ++ rows_of after) ≡ leaves_of (rows_of after) = split ∙ ap (λ l. l ++ leaves_of (rows_of after)) none in
        subst (Follow from to) (sym (leaves_leaf row (rows_of below ++ rows_of after) e)) (o, subst (Follow (from + row.length) to) (sym all) more)
    go false e inner more =
        subst (Follow from to) (sym (leaves_node row (rows_of below ++ rows_of after) e ∙ split))
        (follow_joined from (from + row.length) to (leaves_of (rows_of below)) (leaves_of (rows_of after)) (inner e) more)
