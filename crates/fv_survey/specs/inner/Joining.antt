-- How forests are joined.
use Rattle.fv_survey.specs.Forests.{Forest, Bare, Tree}

-- the two forests, one after the other
abbrev pub joined : Forest → Forest → Forest
joined Bare after = after
joined (Tree row below rest) after = Tree row below (joined rest after)
