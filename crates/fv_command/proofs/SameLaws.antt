-- The first difference of all levels of two images is the answer of `same`.
use Rattle.std.proofs.Common.{◌≡◌, ◌≢◌, List, ℕ, IfOk, Result, Ok, Err, Option, Some, None, refl}
use Rattle.std.specs.Prelude.{IfNone, IfSome, is_none}
use Rattle.fv_base.specs.declared.fault.Fault.{Fault}
use Rattle.fv_budget.specs.Words.{full_budget}
use Rattle.fv_levels.specs.Words.{LevelsForm, levels_of}
use Rattle.fv_same.specs.Words.{FirstDiffers, parts_of, placed_parts}
use Rattle.fv_same.specs.declared.difference.Difference.{Difference}
use Rattle.fv_command.specs.Words.{IsSameAnswer}
use Rattle.fv_command.specs.inner.RunSteps.{verdict_of}

pub answer_is : (a b : List ℕ) (one other : LevelsForm) (r : Result (Option Difference) Fault)
    → one ≡ levels_of a full_budget → other ≡ levels_of b full_budget
    → IfOk r (λ o. IfNone o (parts_of one ≡ parts_of other))
    → IfOk r (λ o. IfSome o (λ _. parts_of one ≢ parts_of other))
    → IfOk r (λ o. IfSome o (λ d. FirstDiffers d (placed_parts one) (placed_parts other)))
    → IfOk r (λ found. IsSameAnswer a b found (verdict_of (is_none found)))
answer_is a b one other (Ok None) is also same differ first = (refl, rw (is, also) at same)
answer_is a b one other (Ok (Some d)) is also same differ first = (refl, (rw (is, also) at differ), (rw (is, also) at first))
answer_is a b one other (Err f) is also same differ first = tt
