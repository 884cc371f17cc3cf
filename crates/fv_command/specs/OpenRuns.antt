-- The text and the status of a run that opens a packed section, and what stops it.
use Rattle.std.specs.Prelude.{◌≡◌, ◌⊎◌, ℕ, Bool, true, List, Option, Some, None, Result, Ok, Err, Vec, IsOkAnd, codes, drop}
use Rattle.std.specs.Global.{Global}
use Rattle.fv_base.specs.Words.{volume_limit}
use Rattle.fv_base.specs.declared.fault.Fault.{Fault}
use Rattle.fv_open.specs.Words.{is_decoded, head_in, way_of, opened, opened_frame, open_out_of_memory}
use Rattle.fv_open.specs.declared.encapsulation.Encapsulation.{Encapsulation}
use Rattle.fv_open.specs.declared.fault.OpenFault.{OpenFault}
use Rattle.fv_open.specs.declared.way.Way.{Way}
use Rattle.fv_rows.specs.Words.{VolumeNode}
use Rattle.fv_section.specs.Words.{frame_form}
use Rattle.fv_text.specs.Words.{Change, ShowsBytes}
use Rattle.fv_tree.specs.Words.{Meaning, MemoryRanOut}
use Rattle.fv_command.specs.PackedSections.{part_at, FindsPacked}
use Rattle.fv_command.specs.RunInputs.{Gives, GivingStops, GivesAt, InputStops, BeginsWith, BeginsNone}
use Rattle.fv_command.specs.declared.ending.Refusal.{Refusal}
use Rattle.fv_command.specs.declared.ending.Refusal.TheVariants.{Input, Section}
use Rattle.fv_command.specs.declared.packed.Packed.{Packed}
use Rattle.fv_command.specs.declared.packed.Packed.TheVariants as packed
use Rattle.fv_command.specs.declared.status.Status.{Status}
use Rattle.fv_command.specs.declared.status.Status.TheVariants.{Done, Different}

-- the bytes of an input from a byte on, or all of them
abbrev pub from_byte : Option ℕ → List ℕ → List ℕ
from_byte None input = input
from_byte (Some n) input = drop n input

-- the text shows the contents that a section has
abbrev pub ShowsContents : Bool → Result (Way × List ℕ) OpenFault → List ℕ → Type 0
ShowsContents hex (Ok (way, contents)) text = ShowsBytes hex contents text
ShowsContents hex (Err fault) text = ⊥

-- a section is not opened, because its contents have this fault; or because memory ran out, which can happen only if the
-- way that its header names decodes the contents
abbrev pub OpeningStops : Result Encapsulation OpenFault → Result (Way × List ℕ) OpenFault → OpenFault → Type 0
OpeningStops head contents fault =
    ((fault ≡ open_out_of_memory) × IsOkAnd head (λ e. is_decoded e.way ≡ true)) ⊎ (contents ≡ Err fault)

-- the text and the status for the result of looking for a packed section: its contents, and Done; or `not found` or
-- `not packed`, and Different
abbrev pub PackedText : Bool → Packed → Status → List ℕ → Type 0
PackedText hex (packed.Section frame) Done text = ShowsContents hex (opened_frame volume_limit (frame_form frame)) text
PackedText hex packed.NotFound Different text = text ≡ codes "not found\n"
PackedText hex packed.NotPacked Different text = text ≡ codes "not packed\n"
PackedText hex answer status text = ⊥

-- a packed section that was found is not opened
abbrev pub PackedStops : Packed → OpenFault → Type 0
PackedStops (packed.Section frame) fault =
    OpeningStops (head_in (frame_form frame)) (opened_frame volume_limit (frame_form frame)) fault
PackedStops answer fault = ⊥

-- the text and the status of `open`. Without a path the input was read to its end, and the text shows the contents of the
-- section that begins at byte `at` of it. With a path the bytes that were taken from the input (`GivesAt`) begin with a
-- volume, and the text is about the section at the end of the path in this volume (`PackedText`)
abbrev pub OpenText : (path : Option (Vec ℕ Global)) → Bool → (at : Option ℕ) → (input : Change) → Status → List ℕ → Type 0
OpenText None hex at input status text =
    (status ≡ Done) × ((bytes : List ℕ) × Gives hex input.old input.new bytes
    × ShowsContents hex (opened volume_limit (from_byte at bytes)) text)
OpenText (Some path) hex at input status text =
    (bytes : List ℕ) × (m : Meaning) × (p : Packed) × GivesAt hex at input.old input.new bytes × BeginsWith bytes m
    × FindsPacked (part_at path.items (VolumeNode m)) p × PackedText hex p status text

-- the bytes do not begin with a volume, and this is their first fault; or memory ran out, which can happen only if they
-- begin with a volume header
abbrev pub NoVolume : List ℕ → Fault → Type 0
NoVolume bytes fault = MemoryRanOut bytes fault ⊎ BeginsNone bytes fault

-- why `open` is refused. For a fault of the input: reading the input stopped with this fault, or there is a path and the
-- bytes taken from the input do not begin with a volume. For a fault of a section: the section that the input or the
-- volume has there is not opened
abbrev pub OpenStops : (path : Option (Vec ℕ Global)) → Bool → (at : Option ℕ) → (input : Change) → Refusal → Type 0
OpenStops None hex at input (Input fault) = GivingStops hex input.old input.new fault
OpenStops None hex at input (Section fault) =
    (bytes : List ℕ) × Gives hex input.old input.new bytes
    × OpeningStops (way_of (from_byte at bytes)) (opened volume_limit (from_byte at bytes)) fault
OpenStops (Some path) hex at input (Input fault) = InputStops NoVolume hex at input fault
OpenStops (Some path) hex at input (Section fault) =
    (bytes : List ℕ) × (m : Meaning) × (p : Packed) × GivesAt hex at input.old input.new bytes × BeginsWith bytes m
    × FindsPacked (part_at path.items (VolumeNode m)) p × PackedStops p fault
OpenStops path hex at input refusal = ⊥
