-- The findings of a row: a set of kinds of faults, kept as a number.
use Rattle.std.specs.Prelude.{ℕ, ◌^◌, Bool, ◌==◌, bit_or, if◌then◌else◌}
use Rattle.std.specs.Int.{bit_at}
use Rattle.fv_base.specs.Words.{fault_number}
use Rattle.fv_base.specs.declared.fault.FaultKind.{FaultKind}
use Rattle.fv_survey.specs.declared.findings.Findings.{Findings}

-- the number that keeps the set
abbrev pub bits_of : Findings → ℕ
bits_of findings = findings.bits

-- the number that keeps the set of one kind: 2 to the power of the number of the kind
abbrev pub bit_of_kind : FaultKind → ℕ
bit_of_kind kind = 2 ^ fault_number kind

-- the kind is in the set: the bit with the number of the kind is set
abbrev pub has_finding : FaultKind → Findings → Bool
has_finding kind findings = bit_at (bits_of findings) (fault_number kind) == 1

-- the set without kinds, and the set of one kind
abbrev pub none : Findings
none = record { bits = 0 }

abbrev pub only : FaultKind → Findings
only kind = record { bits = bit_of_kind kind }

-- the kinds of both sets
abbrev pub united : Findings → Findings → Findings
united a b = record { bits = bit_or (bits_of a) (bits_of b) }

-- the set with one more kind; and with one more kind if `broken` is true
abbrev pub with_kind : FaultKind → Findings → Findings
with_kind kind findings = united findings (only kind)

abbrev pub with_if : Bool → FaultKind → Findings → Findings
with_if broken kind findings = if broken then with_kind kind findings else findings
