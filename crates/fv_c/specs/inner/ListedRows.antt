-- The caller's buffer while reports of the rows of a walk are written to it.
use Rattle.std.specs.Prelude.{◌≡◌, ◌≤◌, ◌++◌, ℕ, List, length, drop, map, take}

-- the first n of these rows were written to the start of a buffer, as many of them as it has room for, and the rest of
-- the buffer is unchanged
pub record BeginsWith {A : Type 0} (n : ℕ) (rows old new : List A) : Type 0 where
  pub fits : n ≤ length old → new ≡ take n rows ++ drop n old
  pub full : length old ≤ n → new ≡ take (length old) rows ++ drop (length old) old

-- the state of a walk that writes the reports of all these rows to a buffer: the first n rows were written, as many of
-- them as the buffer has room for, and `left` are the rows after them
pub record IsListed {A B : Type 0} (report : A → B) (every : List A) (n : ℕ) (left : List A) (old new : List B) : Type 0 where
  pub done : List A
  pub all : done ++ left ≡ every
  pub long : length done ≡ n
  pub size : length new ≡ length old
  pub rows : BeginsWith n (map report every) old new
