-- Proves that bytes have at most as many rows as bytes, if they are read as stores (`few_rows`) or as signature lists
-- (`few_signatures`).
use Rattle.std.proofs.Common.{◌≤◌, ◌+◌, ℕ, zero, suc, List, [], ◌∷◌, arith, drop, length}
use Rattle.fv_variables.specs.Words.{rows_of, rows_up_to, signature_rows, step_at}
use Rattle.fv_variables.specs.declared.step.Reading.{Reading}

few_up_to : (n : ℕ) (reading : Reading) (at : ℕ) (b : List ℕ) → length (rows_up_to n reading at b) ≤ n
few_up_to zero reading at b = omega (arith)
few_up_to (suc n) reading at [] = omega (arith)
few_up_to (suc n) reading at (x ∷ xs) =
    omega (
      arith,
      few_up_to n (step_at reading (x ∷ xs)).next (at + (step_at reading (x ∷ xs)).length)
          (drop (step_at reading (x ∷ xs)).length (x ∷ xs)),
    )

pub few_rows : (b : List ℕ) → length (rows_of b) ≤ length b
unfolding rows_of
few_rows b = few_up_to (length b) _ 0 b

pub few_signatures : (b : List ℕ) → length (signature_rows b) ≤ length b
unfolding signature_rows
few_signatures b = few_up_to (length b) _ 0 b
