-- The lines that have been put.
use Rattle.std.specs.Prelude.{◌≡◌, ℕ, List, ◌++◌}
use Rattle.std.specs.List.{concat}

-- the first of some lines have been put, and these lines are left
pub record Left {S : Type 0} (takes : S → List ℕ → S → Type 0) (whole : List (List ℕ)) (from to : S)
    (left : List (List ℕ)) : Type 0 where
  pub lines : List (List ℕ)
  pub all : lines ++ left ≡ whole
  pub put : takes from (concat lines) to
