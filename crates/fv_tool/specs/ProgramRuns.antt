-- The runs of the program with its arguments.
use Rattle.std.specs.Global.{Global}
use Rattle.std.specs.Prelude.{◌≡◌, ◌≢◌, ◌<◌, ◌⊎◌, ℕ, List, Option, Result, Ok, Err, String, Vec, length, map}
use Rattle.std.specs.String.{string_bytes}
use Rattle.std.specs.declared.io.ErrorKind.{ErrorKind}
use Rattle.std.specs.declared.io.ErrorKind.TheVariants as kinds
use Rattle.fv_text.specs.Words.{Change}
use Rattle.fv_command.specs.Words.{RunsOver}
use Rattle.fv_command.specs.declared.ending.Ending.{Ending}
use Rattle.fv_plan.specs.declared.plan.Plan.{Plan}
use Rattle.fv_tool.specs.ArgumentRejections.{EndsRejected}
use Rattle.fv_arguments.specs.Words.{AreRight, Asks}
use Rattle.fv_arguments.specs.declared.words.WordFault.{WordFault}
use Rattle.fv_arguments.specs.declared.words.WordFault.TheVariants.{Words, OutOfMemory}

-- the arguments of a process, or why they are not available: memory ran out, or they cannot be read. The fault of
-- arguments that cannot be read is OutOfMemory if the error is of that kind, otherwise Words
abbrev pub IsGiven : (List (String Global) → Type 0) → (ErrorKind → Type 0) → Result (Vec (String Global) Global) WordFault
    → Type 0
IsGiven has fails_with (Ok words) = has words.items
IsGiven has fails_with (Err fault) =
    (fault ≡ OutOfMemory)
    ⊎ ((kind : ErrorKind) × fails_with kind × (kind ≡ kinds.OutOfMemory → fault ≡ OutOfMemory)
    × (kind ≢ kinds.OutOfMemory → fault ≡ Words))

-- a run of the program with these arguments: they are right, and the plan that they ask for was run; or they are
-- rejected, and the rejection was reported. Only arguments after the program's name are rejected. Arguments that are not
-- right are rejected as wrong or because memory ran out, and arguments that are right only because memory ran out. Or
-- the report that the arguments are not available
abbrev pub RunsArguments : {S F : Type 0} → (S → Option (List ℕ)) → (F → Option (List ℕ)) → (List ℕ → Option F → Type 0)
    → (S → Type 0) → Result (Vec (String Global) Global) WordFault → Ending → Change → Type 0
RunsArguments of_input of_file opens is_standard (Ok words) ended output =
    ((p : Plan) × Asks (map string_bytes words.items) p × RunsOver of_input of_file opens is_standard p ended output)
    ⊎ ((fault : WordFault) × (1 < length words.items)
    × (fault ≡ Words → AreRight (map string_bytes words.items) → ⊥) × EndsRejected fault ended output)
RunsArguments of_input of_file opens is_standard (Err fault) ended output =
    EndsRejected fault ended output

-- a run of a process: a run of the program with the arguments of the process
abbrev pub RunsProcess : {S F : Type 0} → (S → Option (List ℕ)) → (F → Option (List ℕ)) → (List ℕ → Option F → Type 0)
    → (S → Type 0) → (List (String Global) → Type 0) → (ErrorKind → Type 0) → Ending → Change → Type 0
RunsProcess of_input of_file opens is_standard has fails_with ended output =
    (words : Result (Vec (String Global) Global) WordFault) × IsGiven has fails_with words
    × RunsArguments of_input of_file opens is_standard words ended output
