-- The sources of a run's inputs, and the effects of a run of a plan on its inputs and its output.
use Rattle.std.specs.Prelude.{◌≡◌, ℕ, List, [], Option, Some, None, String, Bool, false, option_map}
use Rattle.std.specs.Global.{Global}
use Rattle.std.specs.String.{string_bytes}
use Rattle.fv_command.specs.declared.source.Source.{Source}
use Rattle.fv_command.specs.declared.source.Source.TheVariants.{Standard, File, Missing, NoInput}
use Rattle.fv_command.specs.Endings.{Ends, refusal_line}
use Rattle.fv_command.specs.OpenRuns.{OpenText, OpenStops}
use Rattle.fv_command.specs.PairRuns.{ListsHobs, StopsHobs, ComparisonRunText, SideStops}
use Rattle.fv_command.specs.SameRuns.{SameRunText, SameStops}
use Rattle.fv_plan.specs.Words.{first_file, second_file}
use Rattle.fv_plan.specs.declared.plan.Command.{Command}
use Rattle.fv_plan.specs.declared.plan.Plan.{Plan}
use Rattle.fv_text.specs.Words.{Change, PortView, port_view}
use Rattle.fv_command.specs.RunInputs.{GivesAt, InputStops}
use Rattle.fv_command.specs.Tasks.{TaskText, TaskRefusal}
use Rattle.fv_plan.specs.declared.plan.Command.TheVariants.{Single, Hobs, Open, Compare, Same}
use Rattle.fv_command.specs.declared.ending.Ending.{Ending}
use Rattle.fv_command.specs.declared.ending.Refusal.{Refusal}
use Rattle.fv_command.specs.declared.ending.Refusal.TheVariants.{Input, OneOfTwo}
use Rattle.fv_command.specs.declared.status.Status.{Status}
use Rattle.fv_command.specs.declared.status.Status.TheVariants.{Done, Refused}

-- the unread bytes of a source, given the unread bytes of standard input and of a file; a file that could not be opened
-- has none, and neither has an input that does not exist
abbrev pub unread : {S F : Type 0} → (S → Option (List ℕ)) → (F → Option (List ℕ)) → Source S F → Option (List ℕ)
unread of_input of_file (Standard reader) = of_input reader
unread of_input of_file (File file) = of_file file
unread of_input of_file Missing = Some []
unread of_input of_file NoInput = Some []

-- the source that opening a path returns: the file, or Missing if it cannot be opened
abbrev pub IsOpened : {S F : Type 0} → (List ℕ → Option F → Type 0) → List ℕ → Source S F → Type 0
IsOpened opens path (File file) = opens path (Some file)
IsOpened opens path Missing = opens path None
IsOpened opens path _ = ⊥

-- the source of a command's first input: standard input if no file is named, otherwise the file at that path
abbrev pub IsFirstSource : {S F : Type 0} → (List ℕ → Option F → Type 0) → (S → Type 0) → Option (String Global) → Source S F → Type 0
IsFirstSource opens is_standard None (Standard reader) = is_standard reader
IsFirstSource opens is_standard None source = ⊥
IsFirstSource opens is_standard (Some path) source = IsOpened opens (string_bytes path) source

-- the source of a command's second input: NoInput if no file is named, otherwise the file at that path
abbrev pub IsSecondSource : {S F : Type 0} → (List ℕ → Option F → Type 0) → Option (String Global) → Source S F → Type 0
IsSecondSource opens None source = source ≡ NoInput
IsSecondSource opens (Some path) source = IsOpened opens (string_bytes path) source

-- the text and the status of a command that is not refused, for these reads of its inputs. A task has its text for the
-- bytes that are taken from its input (`TaskText`). A task and `open` read nothing of the second input. A hand-off list
-- has the status Done
abbrev pub CommandRunText : Command → Bool → (first second : Change) → Status → List ℕ → Type 0
CommandRunText (Single task at file) hex first second status text =
    (second.new ≡ second.old)
    × ((bytes : List ℕ) × GivesAt hex at first.old first.new bytes × TaskText task hex bytes status text)
CommandRunText (Hobs file image) hex first second status text =
    (status ≡ Done) × ListsHobs hex (option_map (λ i. i.base) image) first second text
CommandRunText (Open path at file) hex first second status text =
    (second.new ≡ second.old) × OpenText path hex at first status text
CommandRunText (Compare a b) hex first second status text = ComparisonRunText hex a.at b.at first second status text
CommandRunText (Same a b) hex first second status text = SameRunText hex first second status text

-- why a command is refused, for these reads of its inputs: a fault of an input, of one of two volumes or images with its
-- side, of a hand-off list, or of a packed section. A task and `open` read nothing of the second input
abbrev pub StopsCommand : Command → Bool → (first second : Change) → Refusal → Type 0
StopsCommand (Single task at file) hex first second (Input fault) =
    (second.new ≡ second.old) × InputStops (TaskRefusal task) hex at first fault
StopsCommand (Single task at file) hex first second refusal = ⊥
StopsCommand (Hobs file image) hex first second refusal =
    StopsHobs (option_map (λ i. i.base) image) hex first second refusal
StopsCommand (Open path at file) hex first second refusal =
    (second.new ≡ second.old) × OpenStops path hex at first refusal
StopsCommand (Compare a b) hex first second (OneOfTwo side fault) = SideStops side hex a.at b.at first second fault
StopsCommand (Compare a b) hex first second refusal = ⊥
StopsCommand (Same a b) hex first second (OneOfTwo side fault) = SameStops side hex first second fault
StopsCommand (Same a b) hex first second refusal = ⊥

-- the text and the status of a run. Without a refusal they are the text and the status of the command. With a refusal
-- the command is refused for that reason, the text is the line of the refusal, and the status is Refused
abbrev pub HasText : Command → Bool → (first second : Change) → Option Refusal → Status → List ℕ → Type 0
HasText command hex first second None status text = CommandRunText command hex first second status text
HasText command hex first second (Some refusal) status text =
    StopsCommand command hex first second refusal × (status ≡ Refused) × (text ≡ refusal_line refusal)

-- a run of a plan over its two inputs and its output, and how it ended: its text was written, or a write of the text or
-- the flush after it failed
abbrev pub Runs : Plan → Ending → (first second output : Change) → Type 0
Runs p ended first second output =
    (ran : Status) × (text : List ℕ) × HasText p.command p.hex first second ended.refusal ran text
    × Ends ran text output ended.status

-- a run of the plan over the sources that the plan names: the files that opening the plan's paths returns, and standard
-- input. Before anything is read, the port over a source has all unread bytes, and no failed call
abbrev pub RunsOver : {S F : Type 0} → (S → Option (List ℕ)) → (F → Option (List ℕ)) → (List ℕ → Option F → Type 0)
    → (S → Type 0) → Plan → Ending → Change → Type 0
RunsOver {S} {F} of_input of_file opens is_standard p ended output =
    (first : Source S F) × (second : Source S F) × IsFirstSource opens is_standard (first_file p.command) first
    × IsSecondSource opens (second_file p.command) second × (s : PortView) × (s' : PortView)
    × Runs p ended (record { old = port_view (unread of_input of_file first) false; new = s })
    (record { old = port_view (unread of_input of_file second) false; new = s' }) output
