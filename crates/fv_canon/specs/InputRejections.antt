-- Why an input is rejected, and with which kind of fault: the third sentence of the headline, which `src/headline.rt`
-- states.
use Rattle.std.specs.Prelude.{◌≡◌, ◌⊎◌, ℕ, List}
use Rattle.fv_base.specs.declared.fault.Fault.{Fault}
use Rattle.fv_base.specs.declared.fault.FaultKind.{FaultKind}
use Rattle.fv_base.specs.declared.fault.FaultKind.TheVariants as kinds
use Rattle.fv_tree.specs.Words.{Accepted, NotRead, Meaning}
use Rattle.fv_canon.specs.Layouts.{Fits}
use Rattle.fv_canon.specs.LayoutFaults.{Unfit}

-- the input is a volume that does not fit, and f is the fault of its layout
abbrev pub NotPlaced : List ℕ → Fault → Type 0
NotPlaced input f = (m : Meaning) × Accepted input m × Unfit m 0 f

-- the input is rejected with the fault f: it is not a volume, or it is a volume that does not fit
abbrev pub Rejects : List ℕ → Fault → Type 0
Rejects input f = NotRead input f ⊎ NotPlaced input f

-- ---- the kinds of faults

-- the input is a volume that does not fit
abbrev pub IsUnfit : List ℕ → Type 0
IsUnfit input = (m : Meaning) × Accepted input m × (Fits m → ⊥)

-- the input is not a volume
abbrev pub IsNotVolume : List ℕ → Type 0
IsNotVolume input = (m : Meaning) → Accepted input m → ⊥

-- the kind is TopAlignment or NoRoom, the kinds of fault that a layout can have
abbrev pub IsOfLayout : FaultKind → Type 0
IsOfLayout kind = (kind ≡ kinds.TopAlignment) ⊎ (kind ≡ kinds.NoRoom)

-- an input that is rejected with a fault of a layout is a volume that does not fit. An input that is rejected with any
-- other fault is not a volume
abbrev pub OnlyWhatDoesNotFitIsRejected : Type 0
OnlyWhatDoesNotFitIsRejected =
    (input : List ℕ) (f : Fault) → Rejects input f
    → (IsOfLayout f.kind → IsUnfit input) × ((IsOfLayout f.kind → ⊥) → IsNotVolume input)

-- each volume that does not fit is rejected with a fault of a layout
abbrev pub WhatDoesNotFitIsRejected : Type 0
WhatDoesNotFitIsRejected = (input : List ℕ) → IsUnfit input → (f : Fault) × Rejects input f × IsOfLayout f.kind
