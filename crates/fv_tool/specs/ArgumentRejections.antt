-- Why the command line is rejected, and how the program reports that.
use Rattle.std.specs.Prelude.{◌≡◌, ℕ, List, [], ◌∷◌, ◌++◌, Option, None, Some, codes}
use Rattle.fv_base.specs.Words.{out_of_memory}
use Rattle.fv_command.specs.Words.{Ends, numbered_line}
use Rattle.fv_command.specs.declared.ending.Ending.{Ending}
use Rattle.fv_command.specs.declared.ending.Refusal.{Refusal}
use Rattle.fv_command.specs.declared.status.Status.{Status}
use Rattle.fv_command.specs.declared.ending.Refusal.TheVariants.{Input}
use Rattle.fv_command.specs.declared.status.Status.TheVariants as statuses
use Rattle.fv_arguments.specs.declared.words.WordFault.{WordFault}
use Rattle.fv_arguments.specs.declared.words.WordFault.TheVariants.{Words, OutOfMemory}
use Rattle.fv_text.specs.Words.{Change}

-- the status of a run whose command line is rejected: WrongArguments or Refused
abbrev pub status_of : WordFault → Status
status_of Words = statuses.WrongArguments
status_of OutOfMemory = statuses.Refused

-- the line that reports the rejection: `wrong words`, or the line of the fault OutOfMemory (number 24)
abbrev pub line_of : WordFault → List ℕ
line_of Words = codes "wrong words" ++ 10 ∷ []
line_of OutOfMemory = numbered_line 24 0

-- the refusal that is returned with the rejection: out of memory, or None if the arguments are wrong
abbrev pub refusal_of : WordFault → Option Refusal
refusal_of Words = None
refusal_of OutOfMemory = Some (Input out_of_memory)

-- the command line is rejected: the line that reports this was written, or a write of the line or the flush after it
-- failed
abbrev pub EndsRejected : WordFault → Ending → Change → Type 0
EndsRejected fault ended output =
    Ends (status_of fault) (line_of fault) output ended.status × (ended.refusal ≡ refusal_of fault)
