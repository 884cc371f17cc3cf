-- Why a whole input is not a volume: its first fault (PI specification, volume 3, section 3.2).
use Rattle.std.specs.Prelude.{◌≡◌, ◌⊎◌, ◌<◌, ℕ, List, length, take}
use Rattle.fv_base.specs.Words.{outer_fault, out_of_memory}
use Rattle.fv_base.specs.declared.fault.Fault.{Fault}
use Rattle.fv_base.specs.declared.fault.FaultKind.TheVariants as kinds
use Rattle.fv_head.specs.Words.{BeginsWithHeader}
use Rattle.fv_tree.specs.Denotes.{Accepted}
use Rattle.fv_tree.specs.FirstFault.{FaultHolds, IsFirstOfVolume}
use Rattle.fv_tree.specs.Meaning.{Meaning, length_of}

-- more bytes follow the volume at the start of the input, and the fault is Length at that volume's end
abbrev pub BytesFollowVolume : List ℕ → Fault → Type 0
BytesFollowVolume input f =
    (m : Meaning) × Accepted (take (length_of m) input) m × (length_of m < length input)
    × (f ≡ outer_fault kinds.Length (length_of m))

-- the first fault of a whole input: the first fault of the volume at its start, or Length because more bytes follow
-- that volume
abbrev pub IsFirstOfInput : List ℕ → Fault → Type 0
IsFirstOfInput input f = IsFirstOfVolume input f ⊎ BytesFollowVolume input f

-- the condition of the fault holds in the input at the fault's offset (`FaultHolds`); or bytes follow the volume at the
-- start of the input, and the fault is Length at that volume's end
abbrev pub FaultHoldsInInput : List ℕ → Fault → Type 0
FaultHoldsInInput input f = FaultHolds input f ⊎ BytesFollowVolume input f

-- the input is not a volume, and this is its first fault
pub record NotRead (input : List ℕ) (f : Fault) : Type 0 where
  pub none : (m : Meaning) → Accepted input m → ⊥
  pub first : IsFirstOfInput input f

-- memory ran out, which can happen only if the input begins with a volume header
abbrev pub MemoryRanOut : List ℕ → Fault → Type 0
MemoryRanOut input f = (f ≡ out_of_memory) × BeginsWithHeader input
