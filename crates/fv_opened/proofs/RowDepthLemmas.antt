-- All rows of a volume, and all rows of a stream of sections, are at a depth of at most 26, because groups and volumes
-- nest only so deep.
use Rattle.std.proofs.Common.{◌≡◌, ◌≤◌, ◌+◌, ℕ, zero, suc, List, [], ◌∷◌, ◌++◌, length, map, ap, arith}
use Rattle.fv_base.proofs.Laws.{length-append, AllByRecursion}
use Rattle.fv_tree.specs.Words.{Meaning, SectionMeaning, AcceptedStream, sections_from}
use Rattle.fv_rows.specs.Words.{NodeMeaning, VolumeNode, SectionNode, TreeRow, PartNestsAt, nesting_inside, parts_in, rows_inside}
use Rattle.fv_rows.specs.Words.{rows_of_nodes, rows_of_sections, tree_rows}
use Rattle.fv_rows.proofs.Laws.{deep, inside_nests, inside_rows, stream_nests, stream_rows, volume_rows}
use Rattle.fv_opened.specs.inner.OpenedPuts.{AreShallow}

-- two lists of shallow rows, one after the other
shallow_join : (xs ys : List TreeRow) → AreShallow xs → AreShallow ys → AreShallow (xs ++ ys)
shallow_join [] ys all more = more
shallow_join (x ∷ xs) ys (here, all) more = (here, shallow_join xs ys all more)

-- the rows of some parts at the depth d; `most` is at least the number of the rows
shallow_nodes : (most d n i : ℕ) (nodes : List NodeMeaning) → length (rows_of_nodes d n i nodes) ≤ most
    → AllByRecursion (PartNestsAt d) nodes → AreShallow (rows_of_nodes d n i nodes)
shallow_nodes most d n i [] few nests = tt
shallow_nodes zero d n i (node ∷ nodes) few nests = absurd (omega (arith, few))
shallow_nodes (suc most) d n i (node ∷ nodes) few (here, more) =
    let inside : List TreeRow = rows_inside (d + 1) (nesting_inside n node) node in
    let rest : List TreeRow = rows_of_nodes d n (i + 1) nodes in
    let own : inside ≡ rows_of_nodes (d + 1) (nesting_inside n node) 0 (parts_in node) = inside_rows _ _ node in
    let long = length-append inside rest in (
      deep d node here,
      shallow_join inside rest
          (rw own (shallow_nodes most (d + 1) (nesting_inside n node) 0 (parts_in node) (omega (arith, few, long, ap length own)) (inside_nests d node here)))
          (shallow_nodes most d n (i + 1) nodes (omega (arith, few, long)) more),
    )

pub volume_shallow : (m : Meaning) → PartNestsAt 0 (VolumeNode m) → AreShallow (tree_rows m)
volume_shallow m nests = let own : List NodeMeaning = VolumeNode m ∷ [] in
    rw (volume_rows 0 0 m) (shallow_nodes (length (rows_of_nodes 0 0 0 own)) 0 0 0 own (omega arith) (nests, tt))

pub stream_shallow : (ss : List SectionMeaning) (tail : ℕ) (b : List ℕ) → AcceptedStream ss tail b
    → AreShallow (rows_of_sections 0 0 0 (sections_from ss))
stream_shallow ss tail b is =
    let own : List NodeMeaning = map SectionNode ss in
    rw (stream_rows ss) (shallow_nodes (length (rows_of_nodes 0 0 0 own)) 0 0 0 own (omega arith) (stream_nests ss tail b is))
