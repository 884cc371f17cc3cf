-- The reads and writes of a run that compares two volumes or two inputs, and the faults that stop it.
use Rattle.std.specs.Prelude.{ℕ, ◌≡◌, List, Option, ◌⊎◌, ◌≢◌, ◌↔◌, Bool, true}
use Rattle.std.specs.Io.KnownBytes.{Appends, Keeps}
use Rattle.fv_base.specs.Words.{out_of_memory, ReadsWhole, ReadStops, WriteStops}
use Rattle.fv_base.specs.declared.fault.Fault.{Fault}
use Rattle.fv_tree.specs.Words.{Accepted, MemoryRanOut, NotRead, Meaning, difference}
use Rattle.fv_compare.specs.ComparisonLines.{compare_line}
use Rattle.fv_compare.specs.declared.side.Side.{Side}
use Rattle.fv_compare.specs.declared.side.Side.TheVariants as sides

-- ---- two volumes

-- the result says whether the two volumes have the same meaning, and the line of their comparison was written
abbrev pub Compares : Meaning → Meaning → Option (List ℕ) → Option (List ℕ) → Bool → Type 0
Compares m k held holds same = ((same ≡ true) ↔ (m ≡ k)) × Appends held holds (compare_line (difference m k))

-- memory ran out before anything was written, which can happen only if the two volumes differ; or the writer stopped
-- within the line
abbrev pub ComparisonStops : Side → Meaning → Meaning → Option (List ℕ) → Option (List ℕ) → Fault → Type 0
ComparisonStops sides.First m k held holds fault = Keeps held holds × (fault ≡ out_of_memory) × (m ≢ k)
ComparisonStops sides.Second m k held holds fault = ⊥
ComparisonStops sides.Output m k held holds fault = WriteStops held holds (compare_line (difference m k)) fault

-- ---- two inputs

-- the input was read to its end, and is a volume with this meaning
abbrev pub ReadsVolume : Option (List ℕ) → Option (List ℕ) → Meaning → Type 0
ReadsVolume unread left m = (input : List ℕ) × ReadsWhole unread left input × Accepted input m

-- an input that was read to its end is not a volume, or it begins with a volume header and memory ran out
abbrev pub VolumeStops : List ℕ → Fault → Type 0
VolumeStops input fault = MemoryRanOut input fault ⊎ NotRead input fault

-- an input stopped the run: while it was read, or after it had been read to its end
abbrev pub InputSideStops : Option (List ℕ) → Option (List ℕ) → Fault → Type 0
InputSideStops unread left fault =
    ReadStops unread left fault ⊎ ((input : List ℕ) × ReadsWhole unread left input × VolumeStops input fault)

-- both inputs were read, the result says whether they have the same meaning, and the line was written
abbrev pub RunCompares : (unread left unread' left' held holds : Option (List ℕ)) → Bool → Type 0
RunCompares unread left unread' left' held holds same =
    (m : Meaning) × (k : Meaning) × ReadsVolume unread left m × ReadsVolume unread' left' k
    × Compares m k held holds same

-- the side names the input, or the output, that stopped the run, and is First if memory ran out while two volumes that
-- differ were compared. The second input is read only if the first is a volume. Nothing is written before both are read
-- and compared; then the line is written, and the writer may stop within it
abbrev pub SideStopsRun : Side → (unread left unread' left' held holds : Option (List ℕ)) → Fault → Type 0
SideStopsRun sides.First unread left unread' left' held holds fault =
    Keeps held holds
    × ((Keeps unread' left' × InputSideStops unread left fault)
    ⊎ ((m : Meaning) × (k : Meaning) × ReadsVolume unread left m × ReadsVolume unread' left' k
    × (fault ≡ out_of_memory) × (m ≢ k)))
SideStopsRun sides.Second unread left unread' left' held holds fault =
    Keeps held holds × ((m : Meaning) × ReadsVolume unread left m) × InputSideStops unread' left' fault
SideStopsRun sides.Output unread left unread' left' held holds fault =
    (m : Meaning) × (k : Meaning) × ReadsVolume unread left m × ReadsVolume unread' left' k
    × WriteStops held holds (compare_line (difference m k)) fault
