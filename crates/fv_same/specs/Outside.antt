-- The bytes outside of the meaning that differ.
use Rattle.std.specs.Prelude.{ℕ, suc, ◌+◌, ◌==◌, if◌then◌else◌, List, [], ◌∷◌, length}

-- the number of bytes in which two lists differ: the bytes at the same place that are not equal, and the bytes that only
-- one list has
abbrev pub differing : List ℕ → List ℕ → ℕ
differing [] ys = length ys
differing (x ∷ xs) [] = suc (length xs)
differing (x ∷ xs) (y ∷ ys) = (if x == y then 0 else 1) + differing xs ys

-- the same for lists of bytes: they are compared in pairs, in order, and what only one side has is compared with nothing
abbrev pub all_differing : List (List ℕ) → List (List ℕ) → ℕ
all_differing [] [] = 0
all_differing [] (b ∷ bs) = differing [] b + all_differing [] bs
all_differing (a ∷ rest) [] = differing a [] + all_differing rest []
all_differing (a ∷ rest) (b ∷ bs) = differing a b + all_differing rest bs
