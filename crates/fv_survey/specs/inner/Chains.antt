-- Portions that lie one after another.
use Rattle.std.specs.Prelude.{◌≡◌, ℕ, ◌+◌, List, [], ◌∷◌, length}
use Rattle.fv_survey.specs.Portions.{PortionForm}

-- the portions lie at this depth, one after another from the offset `from` to the offset `to`
abbrev pub Chain : ℕ → ℕ → ℕ → List PortionForm → Type 0
Chain depth from to [] = from ≡ to
Chain depth from to (p ∷ ps) = (p.nest.depth ≡ depth) × (p.at ≡ from) × Chain depth (from + length p.bytes) to ps
