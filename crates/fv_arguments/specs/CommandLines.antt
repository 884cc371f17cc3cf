-- Which plan a command line asks for.
use Rattle.std.specs.Prelude.{◌≡◌, ◌<◌, ◌≤◌, ◌^◌, ◌++◌, ◌⊎◌, ℕ, true, false, List, [], ◌∷◌, length}
use Rattle.std.specs.Prelude.{Option, Some, None, IfSome, IsSomeAnd, String, codes, option_and_then, option_map}
use Rattle.std.specs.Prelude.{◌==◌, Bool, Vec}
use Rattle.std.specs.List.{before_first, after_first}
use Rattle.std.specs.Str.Parse.{IsNumeral, digits_value, without_leading_plus}
use Rattle.std.specs.Global.{Global}
use Rattle.std.specs.String.{string_bytes}
use Rattle.clap.specs.Words.{App}
use Rattle.fv_base.specs.Words.{guid_read}
use Rattle.fv_plan.specs.declared.plan.Part.{Part}
use Rattle.fv_plan.specs.declared.plan.Command.{Command}
use Rattle.fv_plan.specs.declared.plan.ImageFile.{ImageFile}
use Rattle.fv_plan.specs.declared.plan.Plan.{Plan}
use Rattle.fv_plan.specs.declared.plan.VolumeFile.{VolumeFile}
use Rattle.fv_arguments.specs.Options.{compare_app, extract_app, faults_in, flag_in, hobs_app, list_app, image_app, one_input_app}
use Rattle.fv_arguments.specs.Options.{open_app, same_app, survey_app}
use Rattle.fv_arguments.specs.Options.{text_in, volume_app}
use Rattle.fv_plan.specs.declared.plan.Command.TheVariants.{Single, Hobs, Open, Compare, Same}
use Rattle.fv_plan.specs.declared.plan.Task.TheVariants.{Normalise, NormaliseAll, List as Listing, ListSums, ListOpened}
use Rattle.fv_plan.specs.declared.plan.Task.TheVariants.{Extract, ExtractOpened, Check, CheckAll, Cells, Unfix, Scan, Survey, SurveyOpened}

-- the plan of a command line without arguments: normalise hexadecimal text from standard input
abbrev pub plan_without_arguments : Plan
plan_without_arguments = record { hex = true; command = Single Normalise None None }

-- the argument that names the command
abbrev pub command_name : Command → List ℕ
command_name (Single Normalise at file) = codes "normalise"
command_name (Single NormaliseAll at file) = codes "normalise"
command_name (Single Listing at file) = codes "list"
command_name (Single ListSums at file) = codes "list"
command_name (Single ListOpened at file) = codes "list"
command_name (Single (Extract part) at file) = codes "extract"
command_name (Single (ExtractOpened part) at file) = codes "extract"
command_name (Single Check at file) = codes "check"
command_name (Single CheckAll at file) = codes "check"
command_name (Single Cells at file) = codes "cells"
command_name (Single Unfix at file) = codes "unfix"
command_name (Single Scan at file) = codes "scan"
command_name (Single Survey at file) = codes "survey"
command_name (Single SurveyOpened at file) = codes "survey"
command_name (Hobs file image) = codes "hobs"
command_name (Open path at file) = codes "open"
command_name (Compare first second) = codes "compare"
command_name (Same first second) = codes "same"

-- the rules of the command's arguments
abbrev pub command_app : Command → App
command_app (Single Normalise at file) = image_app
command_app (Single NormaliseAll at file) = image_app
command_app (Single Listing at file) = list_app
command_app (Single ListSums at file) = list_app
command_app (Single ListOpened at file) = list_app
command_app (Single (Extract part) at file) = extract_app
command_app (Single (ExtractOpened part) at file) = extract_app
command_app (Single Check at file) = image_app
command_app (Single CheckAll at file) = image_app
command_app (Single Cells at file) = volume_app
command_app (Single Unfix at file) = volume_app
command_app (Single Scan at file) = one_input_app
command_app (Single Survey at file) = survey_app
command_app (Single SurveyOpened at file) = survey_app
command_app (Hobs file image) = hobs_app
command_app (Open path at file) = open_app
command_app (Compare first second) = compare_app
command_app (Same first second) = same_app

-- the digits spell n in this radix, and n has at most `bits` bits
abbrev pub IsNumeralOf : (radix bits : ℕ) → List ℕ → ℕ → Type 0
IsNumeralOf radix bits digits n = IsNumeral radix digits × (n ≡ digits_value radix digits) × (n < 2 ^ bits)

-- the text is a decimal number below 2 ^ bits, which may have a plus before it
abbrev pub IsNumberWord : ℕ → List ℕ → ℕ → Type 0
IsNumberWord bits text n = IsNumeralOf 10 bits (without_leading_plus text) n

-- which of the sections with one type is meant: the first if there is no text
abbrev pub IsInstanceWord : Option (List ℕ) → ℕ → Type 0
IsInstanceWord None n = n ≡ 1
IsInstanceWord (Some text) n = IsNumberWord 32 text n

-- the part of a volume that three texts name: the GUID of its file, which is given; the type of a section, in one or two
-- hexadecimal digits, or no section if there is no text; and which of the sections with this type it is
pub record IsPartBy (name section which : Option (List ℕ)) (part : Part) : Type 0 where
  pub name_is : option_and_then guid_read name ≡ Some part.name
  pub section_is : (part.section ≡ option_map (digits_value 16) section)
      × IfSome section (λ text. IsNumeral 16 text × (length text ≤ 2))
  pub instance_is : IsInstanceWord which part.instance

-- an image and its base, the address of its first byte: both are given, or neither
abbrev pub IsImageWords : (path base : Option (List ℕ)) → Option ImageFile → Type 0
IsImageWords path base None = (path ≡ None) × (base ≡ None)
IsImageWords path base (Some image) =
    (path ≡ Some (string_bytes image.path)) × IsSomeAnd base (λ text. IsNumberWord 64 text image.base)

-- the character between two numbers of a path
abbrev pub is_point : ℕ → Bool
is_point c = c == 46

-- the text is a path with these numbers: one decimal number below 2 ^ 64, without a sign; or more of them, where the text
-- before the first point is the first number, and the text after this point has the others
abbrev pub IsPathText : List ℕ → (path : List ℕ) → Type 0
IsPathText text [] = ⊥
IsPathText text (n ∷ []) = IsNumeralOf 10 64 text n
IsPathText text (n ∷ m ∷ path) =
    IsNumeralOf 10 64 (before_first is_point text) n × IsPathText (after_first is_point text) (m ∷ path)

-- the path of a section, or None if there is no text
abbrev pub IsPathWord : Option (List ℕ) → Option (Vec ℕ Global) → Type 0
IsPathWord None path = path ≡ None
IsPathWord (Some text) None = ⊥
IsPathWord (Some text) (Some path) = IsPathText text path.items

-- the byte at which a volume begins, below 2 ^ 64: a decimal number, or `0x` and hexadecimal digits. None if there is no
-- text
abbrev pub IsAtWord : Option (List ℕ) → Option ℕ → Type 0
IsAtWord None at = at ≡ None
IsAtWord (Some text) None = ⊥
IsAtWord (Some text) (Some n) =
    IsNumberWord 64 text n ⊎ ((digits : List ℕ) × (text ≡ codes "0x" ++ digits) × IsNumeralOf 16 64 digits n)

-- a file that is named, and the byte at which the volume in it begins
abbrev pub IsVolumeWords : (path at : Option (List ℕ)) → VolumeFile → Type 0
IsVolumeWords path at volume = (Some (string_bytes volume.path) ≡ path) × IsAtWord at volume.at

-- the input of a command: its file, and the byte at which the volume begins, each if it is given
abbrev pub HasInput : App → List (List ℕ) → Option ℕ → Option (String Global) → Type 0
HasInput app rest at file =
    IsAtWord (text_in app (codes "at") rest) at × (option_map string_bytes file ≡ text_in app (codes "file") rest)

-- the arguments of `extract` give an input and a part
abbrev pub HasPart : List (List ℕ) → Part → Option ℕ → Option (String Global) → Type 0
HasPart rest part at file =
    HasInput extract_app rest at file
    × IsPartBy (text_in extract_app (codes "name") rest) (text_in extract_app (codes "section") rest)
    (text_in extract_app (codes "instance") rest) part

-- the arguments after the command's name give this command. A flag (`--all`, `--sums`, `--open`) distinguishes tasks with
-- one name. With `--all` no byte is given, and with `--open` a list has no digests
abbrev pub HasTexts : List (List ℕ) → Command → Type 0
HasTexts rest (Single Normalise at file) =
    (flag_in image_app (codes "all") rest ≡ false) × HasInput image_app rest at file
HasTexts rest (Single NormaliseAll at file) =
    (flag_in image_app (codes "all") rest ≡ true) × (at ≡ None) × HasInput image_app rest at file
HasTexts rest (Single Listing at file) =
    (flag_in list_app (codes "sums") rest ≡ false) × (flag_in list_app (codes "open") rest ≡ false)
    × HasInput list_app rest at file
HasTexts rest (Single ListSums at file) =
    (flag_in list_app (codes "sums") rest ≡ true) × (flag_in list_app (codes "open") rest ≡ false)
    × HasInput list_app rest at file
HasTexts rest (Single ListOpened at file) =
    (flag_in list_app (codes "sums") rest ≡ false) × (flag_in list_app (codes "open") rest ≡ true)
    × HasInput list_app rest at file
HasTexts rest (Single (Extract part) at file) =
    (flag_in extract_app (codes "open") rest ≡ false) × HasPart rest part at file
HasTexts rest (Single (ExtractOpened part) at file) =
    (flag_in extract_app (codes "open") rest ≡ true) × HasPart rest part at file
HasTexts rest (Single Check at file) =
    (flag_in image_app (codes "all") rest ≡ false) × HasInput image_app rest at file
HasTexts rest (Single CheckAll at file) =
    (flag_in image_app (codes "all") rest ≡ true) × (at ≡ None) × HasInput image_app rest at file
HasTexts rest (Single Cells at file) = HasInput volume_app rest at file
HasTexts rest (Single Unfix at file) = HasInput volume_app rest at file
HasTexts rest (Single Scan at file) =
    (at ≡ None) × (option_map string_bytes file ≡ text_in one_input_app (codes "file") rest)
HasTexts rest (Single Survey at file) =
    (flag_in survey_app (codes "open") rest ≡ false) × (at ≡ None)
    × (option_map string_bytes file ≡ text_in survey_app (codes "file") rest)
HasTexts rest (Single SurveyOpened at file) =
    (flag_in survey_app (codes "open") rest ≡ true) × (at ≡ None)
    × (option_map string_bytes file ≡ text_in survey_app (codes "file") rest)
HasTexts rest (Hobs file image) =
    (option_map string_bytes file ≡ text_in hobs_app (codes "file") rest)
    × IsImageWords (text_in hobs_app (codes "image") rest) (text_in hobs_app (codes "base") rest) image
HasTexts rest (Open path at file) =
    HasInput open_app rest at file × IsPathWord (text_in open_app (codes "section") rest) path
HasTexts rest (Compare first second) =
    IsVolumeWords (text_in compare_app (codes "first") rest) (text_in compare_app (codes "at") rest) first
    × IsVolumeWords (text_in compare_app (codes "second") rest) (text_in compare_app (codes "other-at") rest) second
HasTexts rest (Same first second) =
    (Some (string_bytes first) ≡ text_in same_app (codes "first") rest)
    × (Some (string_bytes second) ≡ text_in same_app (codes "second") rest)

-- the plan is for the command with this name. The parser accepts the arguments after the name, these arguments give the
-- plan's command, and inputs and outputs are hexadecimal text exactly if the flag `--hex` is given
pub record AsksBy (name : List ℕ) (rest : List (List ℕ)) (plan : Plan) : Type 0 where
  pub command : name ≡ command_name plan.command
  pub taken : faults_in (command_app plan.command) rest ≡ []
  pub hex : plan.hex ≡ flag_in (command_app plan.command) (codes "hex") rest
  pub texts : HasTexts rest plan.command

-- a complete command line asks for this plan. The argument after the program's name names the command (`AsksBy`).
-- Without that argument, the plan is `plan_without_arguments`
abbrev pub Asks : List (List ℕ) → Plan → Type 0
Asks [] plan = plan ≡ plan_without_arguments
Asks (program ∷ []) plan = plan ≡ plan_without_arguments
Asks (program ∷ name ∷ rest) plan = AsksBy name rest plan

-- the arguments of a command line are right: there is a plan that they ask for
abbrev pub AreRight : List (List ℕ) → Type 0
AreRight words = (plan : Plan) × Asks words plan
