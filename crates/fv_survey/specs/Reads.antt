-- A forest as the reading of portions that lie one after another at the same depth.
use Rattle.std.specs.Prelude.{◌≡◌, List, [], ◌∷◌}
use Rattle.fv_survey.specs.Forests.{Forest, Bare, Tree}
use Rattle.fv_survey.specs.Portions.{PortionForm}
use Rattle.fv_survey.specs.Reading.{first_row, inside_first, after_first}

-- the trees of the forest are the rows of these portions, each with the rows of the portions in it
abbrev pub Reads : Forest → List PortionForm → Type 0
Reads Bare ps = ps ≡ []
Reads (Tree row below after) [] = ⊥
Reads (Tree row below after) (p ∷ ps) =
    (row ≡ first_row p) × Reads below (inside_first p []) × Reads after (after_first p ps)
