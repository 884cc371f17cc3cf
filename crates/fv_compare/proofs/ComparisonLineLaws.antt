-- The line of a comparison has a path, which is put step by step (`path_flat`), and its length has a bound
-- (`short_line`).
use Rattle.std.proofs.Common.{◌≡◌, ◌≤◌, ◌+◌, ◌*◌, ℕ, [], ◌∷◌, ◌++◌, List, length, arith, length-append}
use Rattle.fv_base.proofs.Laws.{codes, common_steps, flat_map, refl}
use Rattle.fv_compare.specs.Words.{path_text, step_text}
use Rattle.fv_tree.specs.declared.difference.Step.{Step}
use Rattle.fv_text.specs.Words.{line_feed}

-- the text of a step has at most 29 bytes, because its number has at most 20
pub short_step : (what number : List ℕ) → length what ≤ 8 → length number ≤ 20 → length (what ++ (number ++ codes " ")) ≤ 29
short_step what number p q = omega (arith, length-append what (number ++ codes " "), length-append number (codes " "), p, q)

-- the text of a path is the texts of its steps, one after the other
pub path_flat : (steps : List Step) → path_text steps ≡ flat_map step_text steps
path_flat [] = refl
path_flat (s ∷ ss) = rw (path_flat ss)

-- so a line has at most 31 bytes, and 29 more for each step
pub short_line : (path word : List ℕ) (count : ℕ) → length path ≤ 29 * count → length word ≤ 17
    → length (codes "different at " ++ (path ++ (word ++ line_feed))) ≤ 31 + 29 * count
short_line path word count p q = grind (arith, common_steps, length-append)
