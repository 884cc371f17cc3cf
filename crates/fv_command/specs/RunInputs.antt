-- The bytes that a run reads, and the faults that stop the reading.
use Rattle.std.specs.Prelude.{◌≡◌, ◌≤◌, ◌⊎◌, ℕ, Bool, true, false, List, length, take, drop, Option, None, Some}
use Rattle.fv_base.specs.Words.{ReadsWhole, ReadStops}
use Rattle.fv_base.specs.declared.fault.Fault.{Fault}
use Rattle.fv_base.specs.declared.fault.FaultKind.TheVariants as kinds
use Rattle.fv_head.specs.Words.{HeadFields, BeginsVolume}
use Rattle.fv_head.specs.declared.extent.Extent.{Extent}
use Rattle.fv_tree.specs.Words.{Accepted, IsFirstOfVolume, Meaning}
use Rattle.fv_text.specs.Words.{SpellsWhole, TextStops, PortView, Change}

-- the input was read to its end: as the bytes themselves, or as hexadecimal text that spells these bytes
abbrev pub Gives : Bool → PortView → PortView → List ℕ → Type 0
Gives false old new input = ReadsWhole old.bytes new.bytes input
Gives true old new input = SpellsWhole old.bytes new.bytes input

-- the bytes that a command takes from an input: all of them, or the volume at byte n. This volume has as many bytes from
-- there on as its header says; or all bytes from there on, if no volume begins there (PI specification, volume 3,
-- section 3.2.1)
abbrev pub TakenAt : Option ℕ → List ℕ → List ℕ → Type 0
TakenAt None input taken = taken ≡ input
TakenAt (Some n) input taken =
    ((h : HeadFields) × (e : Extent) × BeginsVolume h e (drop n input) × (taken ≡ take e.length (drop n input)))
    ⊎ (((h : HeadFields) (e : Extent) → BeginsVolume h e (drop n input) → ⊥) × (taken ≡ drop n input))

-- an input was read to its end, and these bytes are taken from it: all of them, or the volume at byte `at`
abbrev pub GivesAt : Bool → Option ℕ → PortView → PortView → List ℕ → Type 0
GivesAt hex at old new taken = (input : List ℕ) × Gives hex old new input × TakenAt at input taken

-- reading an input stopped with this fault. For bytes: if the fault is ReadFault and the port's error flag was clear
-- before, the flag is set. For hexadecimal text: as `TextStops` says, which includes text that is rejected
abbrev pub GivingStops : Bool → PortView → PortView → Fault → Type 0
GivingStops false old new fault =
    ReadStops old.bytes new.bytes fault × (old.erred ≡ false → fault.kind ≡ kinds.ReadFault → new.erred ≡ true)
GivingStops true old new fault = TextStops old.bytes new.bytes new.erred fault

-- an input stops a run: reading it stopped with this fault; or it was read to its end, and the bytes taken from it stop
-- the run with this fault
abbrev pub InputStops : (List ℕ → Fault → Type 0) → Bool → Option ℕ → Change → Fault → Type 0
InputStops Stops hex at input fault =
    GivingStops hex input.old input.new fault
    ⊎ ((bytes : List ℕ) × GivesAt hex at input.old input.new bytes × Stops bytes fault)

-- the input begins with a volume with this meaning
abbrev pub BeginsWith : List ℕ → Meaning → Type 0
BeginsWith input m = (n : ℕ) × (n ≤ length input) × Accepted (take n input) m

-- the input does not begin with a volume, and this is its first fault
pub record BeginsNone (input : List ℕ) (fault : Fault) : Type 0 where
  pub none : (m : Meaning) → BeginsWith input m → ⊥
  pub first : IsFirstOfVolume input fault
