-- How a run ends: its exit status, and the line of a fault.
use Rattle.std.specs.Io.KnownBytes.{Appends}
use Rattle.std.specs.Prelude.{◌≡◌, ◌⊎◌, ◌++◌, ℕ, true, List, codes, decimal}
use Rattle.fv_base.specs.Words.{fault_number}
use Rattle.fv_base.specs.declared.fault.Fault.{Fault}
use Rattle.fv_compare.specs.declared.side.Side.TheVariants as sides
use Rattle.fv_command.specs.declared.ending.Refusal.{Refusal}
use Rattle.fv_command.specs.declared.ending.Refusal.TheVariants.{Input, OneOfTwo, Hobs, Section}
use Rattle.fv_command.specs.declared.status.Status.{Status}
use Rattle.fv_command.specs.declared.status.Status.TheVariants as statuses
use Rattle.fv_hob.specs.Words.{hob_fault_number}
use Rattle.fv_open.specs.Words.{open_fault_number}
use Rattle.fv_text.specs.Words.{line_feed, Change, StopsIn, Writes}

-- the exit status for each status of a run: 0 Done, 1 Different, 2 Faulty, Incomplete and Refused,
-- 3 WrongArguments
abbrev pub exit_code : Status → ℕ
exit_code statuses.Done = 0
exit_code statuses.Different = 1
exit_code statuses.Faulty = 2
exit_code statuses.Incomplete = 2
exit_code statuses.Refused = 2
exit_code statuses.WrongArguments = 3

-- a run has this text and the status `ran`. Either all of the text was written, and the run ends with `ran`; or a write
-- of the text or the flush after it failed, and the run ends with Refused
abbrev pub Ends : Status → List ℕ → Change → Status → Type 0
Ends ran text output status =
    ((status ≡ ran) × Writes output.old output.new text)
    ⊎ ((status ≡ statuses.Refused) × (StopsIn output.old output.new text
    ⊎ (Appends output.old.bytes output.new.bytes text × (output.new.erred ≡ true))))

-- the line `fault N at M` with a number and an offset in bytes
abbrev pub numbered_line : ℕ → ℕ → List ℕ
numbered_line number at = codes "fault " ++ (decimal number ++ (codes " at " ++ (decimal at ++ line_feed)))

-- the line of a fault, with its number and its offset
abbrev pub fault_line : Fault → List ℕ
fault_line f = numbered_line (fault_number f.kind) f.place.offset

-- the line of a refusal: it begins with `hob` for a hand-off list, with `section` for a packed section, and with `first`
-- or `second` for one of two inputs
abbrev pub refusal_line : Refusal → List ℕ
refusal_line (Input f) = fault_line f
refusal_line (OneOfTwo sides.First f) = codes "first " ++ fault_line f
refusal_line (OneOfTwo sides.Second f) = codes "second " ++ fault_line f
refusal_line (OneOfTwo sides.Output f) = fault_line f
refusal_line (Hobs f) = codes "hob " ++ numbered_line (hob_fault_number f.kind) f.offset
refusal_line (Section f) = codes "section " ++ numbered_line (open_fault_number f.kind) f.offset
