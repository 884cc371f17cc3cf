-- The inputs that a boot reads.
use Rattle.std.specs.Prelude.{◌≡◌, ◌≢◌, ◌⊎◌, ◌≤◌, ℕ, List, length, take}
use Rattle.fv_caller.specs.declared.fault.CallerFault.{CallerFault}
use Rattle.fv_caller.specs.declared.fault.CallerFault.TheVariants as faults
use Rattle.fv_base.specs.Words.{out_of_memory}
use Rattle.fv_depex.specs.Words.{BeginsFirstOp, IsFirstOpFault, Spells, depex_out_of_memory}
use Rattle.fv_depex.specs.declared.op.Op.{Op}
use Rattle.fv_depex.specs.declared.op.Phase.TheVariants as phases
use Rattle.fv_hob.specs.Words.{BeginsTable, HobForm, IsFirstHobFault, IsHobList, hob_out_of_memory}
use Rattle.fv_tree.specs.Words.{Accepted, Meaning, MemoryRanOut, NotRead}

-- the first input is a volume, the second begins with an expression of DXE, and the third begins with a hand-off list
-- (PI specification, volume 3, section 3.2; volume 2, section 10.7; volume 3, section 5)
pub record IsBoot (volume expression hand_off : List ℕ) : Type 0 where
  pub read : (m : Meaning) × Accepted volume m
  pub spelled : (ops : List Op) × (rest : List ℕ) × Spells phases.Dxe ops rest expression
  pub listed : (all : List HobForm) × (n : ℕ) × (n ≤ length hand_off) × IsHobList all (take n hand_off)

-- the fault of the first input that cannot be read: the volume is not read; or the volume is read, and the expression is
-- not; or both are read, and the hand-off list is not. Memory runs out only if the input begins with a volume header,
-- with an op that may be the first, or with a hand-off information table
abbrev pub StopsBoot : List ℕ → List ℕ → List ℕ → CallerFault → Type 0
StopsBoot volume expression hand_off (faults.Volume f) = MemoryRanOut volume f ⊎ NotRead volume f
StopsBoot volume expression hand_off (faults.Expression f) =
    ((m : Meaning) × Accepted volume m)
    × (f ≢ depex_out_of_memory → IsFirstOpFault phases.Dxe expression f)
    × (f ≡ depex_out_of_memory → BeginsFirstOp phases.Dxe expression)
StopsBoot volume expression hand_off (faults.HandOff f) =
    ((m : Meaning) × Accepted volume m)
    × ((ops : List Op) × (rest : List ℕ) × Spells phases.Dxe ops rest expression)
    × (f ≢ hob_out_of_memory → IsFirstHobFault hand_off f)
    × (f ≡ hob_out_of_memory → BeginsTable hand_off)

-- memory ran out in one of the three readers
abbrev pub IsOutOfMemory : CallerFault → Type 0
IsOutOfMemory e =
    (e ≡ faults.Volume out_of_memory) ⊎ (e ≡ faults.Expression depex_out_of_memory) ⊎ (e ≡ faults.HandOff hob_out_of_memory)
