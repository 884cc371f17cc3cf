-- The rows of some bytes. The steps:
-- 1. From as many rows on as there are bytes, more rows to read change nothing (`same_rows`). So the rows are the first
--    row and then the rows of the bytes after it (`rows_step`).
-- 2. The rows tile the bytes (`tiling`).
use Rattle.std.proofs.Common.{◌≡◌, ◌≤◌, ◌<◌, ◌+◌, ℕ, zero, suc, List, [], ◌∷◌, drop, length, refl, sym, ap, ◌∙◌, subst, arith, length-drop}
use Rattle.fv_variables.specs.declared.step.Reading.{Reading}
use Rattle.fv_variables.specs.declared.step.Reading.TheVariants as readings
use Rattle.fv_variables.specs.declared.step.Step.{Step}
use Rattle.fv_variables.specs.Words.{Follow, IsRead, row_at, rows_left, rows_of, rows_up_to, signature_rows, step_at}
use Rattle.fv_variables.proofs.StepLaws.{step_sound}

-- the bytes after a step, and how many there are
pub record After (s : Step) (b : List ℕ) : Type 0 where
  pub read : IsRead s.next (length (drop s.length b))
  pub fewer : length (drop s.length b) + s.length ≡ length b
  pub some : 0 < s.length

pub after_step : (reading : Reading) (b : List ℕ) → 0 < length b → IsRead reading (length b) → After (step_at reading b) b
after_step reading b some is =
    let s : Step = step_at reading b in
    let sound = step_sound reading b some is in record {
      read = subst (IsRead s.next) (omega (arith, length-drop s.length b)) sound.next;
      fewer = omega (arith, length-drop s.length b, sound.fits);
      some = sound.some;
    }

-- the bytes after a step that a walk takes
pub after_taken : (reading : Reading) (b : List ℕ) (s : Step) → 0 < length b → IsRead reading (length b) → s ≡ step_at reading b → After s b
after_taken reading b s some is step_is = subst (λ t. After t b) (sym step_is) (after_step reading b some is)

-- two numbers of rows, both at least the number of bytes
same_rows : (m n : ℕ) (reading : Reading) (at : ℕ) (b : List ℕ) → IsRead reading (length b) → length b ≤ m → length b ≤ n
    → rows_up_to m reading at b ≡ rows_up_to n reading at b
same_rows zero zero reading at b is l k = refl
same_rows zero (suc n) reading at [] is l k = refl
same_rows (suc m) zero reading at [] is l k = refl
same_rows (suc m) (suc n) reading at [] is l k = refl
same_rows zero (suc n) reading at (x ∷ xs) is l k = absurd (omega (arith, l))
same_rows (suc m) zero reading at (x ∷ xs) is l k = absurd (omega (arith, k))
same_rows (suc m) (suc n) reading at (x ∷ xs) is l k =
    let s : Step = step_at reading (x ∷ xs) in
    let after = after_step reading (x ∷ xs) (omega arith) is in
    ap (λ rows. row_at at s ∷ rows) (same_rows m n s.next (at + s.length) (drop s.length (x ∷ xs)) after.read
    (omega (arith, after.fewer, after.some, l)) (omega (arith, after.fewer, after.some, k)))

-- the rows of some bytes, by a step
pub rows_step : (reading : Reading) (at : ℕ) (b : List ℕ) → 0 < length b → IsRead reading (length b)
    → rows_left reading at b
    ≡ row_at at (step_at reading b) ∷ rows_left (step_at reading b).next (at + (step_at reading b).length) (drop (step_at reading b).length b)
rows_step reading at [] some is = absurd (omega (arith, some))
rows_step reading at (x ∷ xs) some is =
    let s : Step = step_at reading (x ∷ xs) in
    let after = after_step reading (x ∷ xs) some is in
    ap (λ rows. row_at at s ∷ rows) (same_rows (length xs) (length (drop s.length (x ∷ xs))) s.next (at + s.length)
    (drop s.length (x ∷ xs)) after.read (omega (arith, after.fewer, after.some)) (omega arith))

-- the row of a step that a walk takes, and the rows after it
pub lent : (reading : Reading) (at : ℕ) (b rest : List ℕ) (s : Step) → 0 < length b → IsRead reading (length b) → s ≡ step_at reading b
    → rest ≡ drop s.length b → rows_left reading at b ≡ row_at at s ∷ rows_left s.next (at + s.length) rest
lent reading at b rest s some is step_is rest_is =
    subst (λ t. rows_left reading at b ≡ row_at at t ∷ rows_left t.next (at + t.length) (drop t.length b)) (sym step_is)
    (rows_step reading at b some is) ∙ ap (λ r. row_at at s ∷ rows_left s.next (at + s.length) r) (sym rest_is)

-- the rows of some bytes lie one after another
tiles : (n : ℕ) (reading : Reading) (at : ℕ) (b : List ℕ) → IsRead reading (length b) → length b ≤ n
    → Follow at (at + length b) (rows_up_to n reading at b)
tiles zero reading at [] is l = omega arith
tiles zero reading at (x ∷ xs) is l = absurd (omega (arith, l))
tiles (suc n) reading at [] is l = omega arith
tiles (suc n) reading at (x ∷ xs) is l =
    let s : Step = step_at reading (x ∷ xs) in
    let after = after_step reading (x ∷ xs) (omega arith) is in
    let ends : at + s.length + length (drop s.length (x ∷ xs)) ≡ at + length (x ∷ xs) = omega (arith, after.fewer) in (
      refl,
      subst (λ to. Follow (at + s.length) to (rows_up_to n s.next (at + s.length) (drop s.length (x ∷ xs)))) ends
          (tiles n s.next (at + s.length) (drop s.length (x ∷ xs)) after.read (omega (arith, after.fewer, after.some, l))),
    )

-- every byte is in exactly one row
pub tiling : (b : List ℕ) → Follow 0 (length b) (rows_of b)
unfolding rows_of
tiling b =
    subst (λ to. Follow 0 to (rows_left readings.Outside 0 b)) (omega arith) (tiles (length b) readings.Outside 0 b tt (omega arith))

pub tiling_lists : (b : List ℕ) → Follow 0 (length b) (signature_rows b)
unfolding signature_rows
tiling_lists b =
    subst (λ to. Follow 0 to (rows_left readings.Lists 0 b)) (omega arith) (tiles (length b) readings.Lists 0 b tt (omega arith))
