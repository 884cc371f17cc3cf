-- Checks in a fixed order, and which of their faults may be reported: the first, or any whose check does not hold.
use Rattle.std.specs.Prelude.{ℕ, Bool, true, false, List, ◌∷◌, ◌++◌, ◌≡◌}
use Rattle.std.specs.List.{AllByRecursion}
use Rattle.fv_base.specs.Faults.{outer_fault}
use Rattle.fv_base.specs.declared.fault.Fault.{Fault}
use Rattle.fv_base.specs.declared.fault.FaultKind.{FaultKind}
use Rattle.fv_base.specs.declared.fault.FaultKind.TheVariants as kinds

-- a check: whether it holds, and its fault if it does not
pub record Check (F : Type 0) : Type 0 where
  pub holds : Bool
  pub fault : F

-- a check of a volume, with the kind and the offset of its fault
abbrev pub check : Bool → FaultKind → ℕ → Check Fault
check holds kind offset = record { holds = holds; fault = outer_fault kind offset }

-- every check holds
abbrev pub AllHold : {F : Type 0} → List (Check F) → Type 0
AllHold cs = AllByRecursion (λ c. c.holds ≡ true) cs

-- f is the fault of a check that does not hold, and P is true of the checks before it
abbrev pub FailsAfter : {F : Type 0} → (List (Check F) → Type 0) → List (Check F) → F → Type 0
FailsAfter {F} P cs f =
    (before : List (Check F)) × (c : Check F) × (after : List (Check F)) × (cs ≡ before ++ (c ∷ after))
    × P before × (c.holds ≡ false) × (f ≡ c.fault)

-- f is the fault of a check that does not hold, and all checks before it hold
abbrev pub IsFirstFault : {F : Type 0} → List (Check F) → F → Type 0
IsFirstFault cs f = FailsAfter AllHold cs f

-- whether a check with a fault of this kind is a guard: a guard makes sure that the bytes which later checks read
-- exist. The guard of FreeSpace makes sure that there are 24 bytes, and that State is not erased
abbrev pub is_guard : FaultKind → Bool
is_guard kinds.Truncated = true
is_guard kinds.FreeSpace = true
is_guard kinds.FileSize = true
is_guard kinds.SectionTail = true
is_guard _ = false

-- every check that is a guard holds
abbrev pub GuardsHold : List (Check Fault) → Type 0
GuardsHold cs = AllByRecursion (λ c. is_guard c.fault.kind ≡ true → c.holds ≡ true) cs

-- which faults a statement is about. `First`: only the first fault, before which all checks hold. `Any`: any fault
-- whose own check does not hold, if all guards (`is_guard`) before this check hold
pub data Which : Type 0 where
  First : Which
  Any : Which

-- f is the fault of a check that does not hold. For `First`, all checks before it hold. For `Any`, all guards
-- (`is_guard`) before it hold. In both cases the bytes that the failing check reads exist
abbrev pub Fails : Which → List (Check Fault) → Fault → Type 0
Fails First cs f = IsFirstFault cs f
Fails Any cs f = FailsAfter GuardsHold cs f
