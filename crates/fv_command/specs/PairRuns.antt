-- Runs over two inputs: a hand-off list with an image of its volumes, and two volumes that are compared.
use Rattle.std.specs.Prelude.{◌≡◌, ◌≤◌, ◌⊎◌, ℕ, Bool, List, [], Option, Some, None, length, take, ◌≢◌, option_map}
use Rattle.fv_base.specs.Words.{out_of_memory}
use Rattle.fv_base.specs.declared.fault.Fault.{Fault}
use Rattle.fv_hob.specs.Words.{BeginsTable, IsFirstHobFault, hob_out_of_memory, HobForm, IsHobList}
use Rattle.fv_lines.specs.Words.{HobsText}
use Rattle.fv_command.specs.RunInputs.{Gives, GivingStops, GivesAt, InputStops}
use Rattle.fv_command.specs.declared.ending.Refusal.{Refusal}
use Rattle.fv_command.specs.declared.ending.Refusal.TheVariants.{Input, OneOfTwo, Hobs, Section}
use Rattle.fv_text.specs.Words.{Change}
use Rattle.fv_command.specs.declared.status.Status.{Status}
use Rattle.fv_command.specs.declared.status.Status.TheVariants.{Done, Different}
use Rattle.fv_compare.specs.Words.{VolumeStops, compare_line}
use Rattle.fv_compare.specs.declared.side.Side.{Side}
use Rattle.fv_compare.specs.declared.side.Side.TheVariants as sides
use Rattle.fv_tree.specs.Words.{Accepted, Meaning, difference}

-- if there is a base, an image was read to its end; otherwise nothing was read, and the image has no bytes
abbrev pub GivesImage : Bool → Option ℕ → Change → List ℕ → Type 0
GivesImage hex None input bytes = (input.new ≡ input.old) × (bytes ≡ [])
GivesImage hex (Some base) input bytes = Gives hex input.old input.new bytes

-- the list and the image were read, the first input begins with a hand-off list, and the text is the output of `hobs`
-- for this list
pub record ListsHobs (hex : Bool) (base : Option ℕ) (first second : Change) (text : List ℕ) : Type 0 where
  pub list : List ℕ
  pub gives : Gives hex first.old first.new list
  pub image : List ℕ
  pub gives_image : GivesImage hex base second image
  pub all : List HobForm
  pub consumed : ℕ
  pub within : consumed ≤ length list
  pub is_list : IsHobList all (take consumed list)
  pub text_is : HobsText (option_map (λ b. record { bytes = image; base = b }) base) all consumed text

-- why a run over a hand-off list is refused. For a fault of an input: reading the list stopped with this fault, and
-- nothing of the image was read; or there is a base, and reading the image stopped after the list was read to its end.
-- For a fault of the list: both inputs were read, and the first does not begin with a hand-off list; or memory ran out,
-- which can happen only if the first begins with a hand-off information table
abbrev pub StopsHobs : Option ℕ → Bool → (first second : Change) → Refusal → Type 0
StopsHobs base hex first second (Input fault) =
    ((second.new ≡ second.old) × GivingStops hex first.old first.new fault)
    ⊎ ((list : List ℕ) × Gives hex first.old first.new list × (base ≢ None) × GivingStops hex second.old second.new fault)
StopsHobs base hex first second (Hobs fault) =
    (list : List ℕ) × (image : List ℕ) × Gives hex first.old first.new list × GivesImage hex base second image
    × (((fault ≡ hob_out_of_memory) × BeginsTable list) ⊎ IsFirstHobFault list fault)
StopsHobs base hex first second (OneOfTwo side fault) = ⊥
StopsHobs base hex first second (Section fault) = ⊥

-- an input was read to its end, and the bytes taken from it (`GivesAt`) are a volume with this meaning
abbrev pub GivesVolume : Bool → Option ℕ → Change → Meaning → Type 0
GivesVolume hex at input m = (bytes : List ℕ) × GivesAt hex at input.old input.new bytes × Accepted bytes m

-- the side names the input that stopped the run: reading it stopped, the bytes taken from it are not a volume, or memory
-- ran out. The second input is read only if the first is a volume. If memory runs out while two different volumes are
-- compared, the side is First
abbrev pub SideStops : Side → Bool → (at other : Option ℕ) → (first second : Change) → Fault → Type 0
SideStops sides.First hex at other first second fault =
    ((second.new ≡ second.old) × InputStops VolumeStops hex at first fault)
    ⊎ ((m : Meaning) × (k : Meaning) × GivesVolume hex at first m × GivesVolume hex other second k
    × (fault ≡ out_of_memory) × (m ≢ k))
SideStops sides.Second hex at other first second fault =
    ((m : Meaning) × GivesVolume hex at first m) × InputStops VolumeStops hex other second fault
SideStops sides.Output hex at other first second fault = ⊥

-- the text and the status of a comparison: `same` and Done, if the two volumes have the same meaning; otherwise where
-- they first differ, and Different
abbrev pub ComparisonRunText : Bool → (at other : Option ℕ) → (first second : Change) → Status → List ℕ → Type 0
ComparisonRunText hex at other first second status text =
    (m : Meaning) × (k : Meaning) × GivesVolume hex at first m × GivesVolume hex other second k
    × (((status ≡ Done) × (m ≡ k)) ⊎ ((status ≡ Different) × (m ≢ k))) × (text ≡ compare_line (difference m k))
