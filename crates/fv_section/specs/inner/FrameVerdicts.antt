-- The result of checking a section header, and the test of a text, in the form in which the code computes them.
use Rattle.std.specs.Prelude.{ℕ, Result, List, ◌-◌, ◌%◌, ◌==◌, nat_le, ◌&&◌, not, Bool, length, take, drop}
use Rattle.fv_base.specs.inner.Verdicts.{first_fault, verdict_by}
use Rattle.fv_base.specs.Words.{words_of, le}
use Rattle.fv_base.specs.declared.fault.Fault.{Fault}
use Rattle.fv_section.specs.Frames.{FrameForm}
use Rattle.fv_section.specs.FrameChecks.{frame_checks}
use Rattle.fv_section.specs.StreamReads.{frame_in}
use Rattle.std.specs.List.{list_all}

-- the frame at the offset `at`, or the fault of the first check that fails; r is the bytes from `at` on
abbrev pub frame_verdict : ℕ → List ℕ → Result FrameForm Fault
frame_verdict at r = verdict_by (first_fault (frame_checks at r)) (frame_in at r)

-- whether no unit is zero
abbrev pub none_zero : List ℕ → Bool
none_zero units = list_all (λ unit. not (unit == 0)) units

-- whether b is a text followed by its zero unit (`IsText`)
abbrev pub is_text : List ℕ → Bool
is_text b =
    nat_le 2 (length b)
    && (length b % 2 == 0) && (le (drop (length b - 2) b) == 0) && none_zero (words_of (take (length b - 2) b))
