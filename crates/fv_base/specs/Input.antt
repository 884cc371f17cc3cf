-- The bytes that a reader gave, the reasons why reading stopped, and the bytes that a writer holds when a run has
-- stopped.
use Rattle.std.specs.Prelude.{ℕ, ◌≡◌, ◌<◌, ◌≤◌, ◌⊎◌, List, length, Option, take}
use Rattle.std.specs.Io.KnownBytes.{Consumes, IsAtEnd, Appends}
use Rattle.fv_base.specs.declared.fault.Fault.{Fault}
use Rattle.fv_base.specs.declared.fault.FaultKind.{FaultKind}
use Rattle.fv_base.specs.declared.fault.FaultKind.TheVariants as kinds
use Rattle.fv_base.specs.Limits.{volume_limit}

-- the maximum number of bytes that a single read asks for
abbrev pub read_limit : ℕ
read_limit = 65536

-- the least number of bytes for which memory is taken before an input is read: the length of a volume header without
-- its block map
abbrev pub least_room : ℕ
least_room = 56

-- the reader gave these bytes, and they are all that it had
pub record GivesAll (old new : Option (List ℕ)) (bytes : List ℕ) : Type 0 where
  pub gave : Consumes old new bytes
  pub at_end : IsAtEnd new

-- the reader gave these bytes, they are all that it had, and there are at most `volume_limit` of them
pub record ReadsWhole (old new : Option (List ℕ)) (input : List ℕ) : Type 0 where
  pub gives : GivesAll old new input
  pub small : length input ≤ volume_limit

-- the reader gave n bytes
abbrev pub GaveCount : Option (List ℕ) → Option (List ℕ) → ℕ → Type 0
GaveCount old new n = (bytes : List ℕ) × Consumes old new bytes × (length bytes ≡ n)

-- the reader gave more than n bytes
abbrev pub GaveMore : Option (List ℕ) → Option (List ℕ) → ℕ → Type 0
GaveMore old new n = (bytes : List ℕ) × Consumes old new bytes × (n < length bytes)

-- why reading stopped, by the kind and the offset n of the fault: ReadFault at the number of bytes given; Length at
-- `volume_limit`, if more than `limit` bytes came; OutOfMemory at 0; no other kind
abbrev pub ReadStopsFor : ℕ → FaultKind → Option (List ℕ) → Option (List ℕ) → ℕ → Type 0
ReadStopsFor limit kinds.ReadFault old new n = GaveCount old new n
ReadStopsFor limit kinds.Length old new n = (n ≡ volume_limit) × GaveMore old new limit
ReadStopsFor limit kinds.OutOfMemory old new n = n ≡ 0
ReadStopsFor limit _ old new n = ⊥

-- reading at most `limit` bytes stopped with this fault
pub record StopsWithin (limit : ℕ) (old new : Option (List ℕ)) (fault : Fault) : Type 0 where
  pub depth : fault.place.depth ≡ 0
  pub cause : ReadStopsFor limit fault.kind old new fault.place.offset

-- reading the input stopped with this fault. If memory ran out, it ran out before the first byte, or after more than
-- `least_room` bytes
abbrev pub ReadStops : Option (List ℕ) → Option (List ℕ) → Fault → Type 0
ReadStops old new fault =
    StopsWithin volume_limit old new fault
    × (fault.kind ≡ kinds.OutOfMemory → (GaveCount old new 0 ⊎ GaveMore old new least_room))

-- writing stopped with a WriteFault: after the bytes that it held before, the writer holds a first part of the output,
-- which is not all of it. The fault's offset is the length of that part
pub record WriteStops (held holds : Option (List ℕ)) (output : List ℕ) (fault : Fault) : Type 0 where
  pub kind : fault.kind ≡ kinds.WriteFault
  pub depth : fault.place.depth ≡ 0
  pub before_end : fault.place.offset < length output
  pub wrote : Appends held holds (take fault.place.offset output)
