-- The report to C on each volume of a flash image (PI specification, volume 3, section 3.2).
use Rattle.std.specs.Prelude.{ℕ}
use Rattle.fv_canon.specs.declared.image_check.VolumeCheck.{VolumeCheck}
use Rattle.fv_canon.specs.declared.image_check.VolumeOutcome.{VolumeOutcome}
use Rattle.fv_canon.specs.declared.image_check.VolumeOutcome.TheVariants.{Canonical, NotCanonical, Rejected}
use Rattle.fv_c.specs.Reports.{no_fault, reported_fault}
use Rattle.fv_c.specs.declared.image_checks.FvVolumeCheck.{FvVolumeCheck}
use Rattle.fv_c.specs.declared.reports.FvFault.{FvFault}

-- the outcome of a check: the report of the fault with which the volume is rejected, or the report that there is no
-- fault; and 1 if the volume is its own canonical image, and otherwise 0
abbrev pub reported_outcome : VolumeOutcome → FvFault × ℕ
reported_outcome Canonical = (no_fault, 1)
reported_outcome NotCanonical = (no_fault, 0)
reported_outcome (Rejected fault) = (reported_fault fault, 0)

-- the row for a volume: its offset, its length and the outcome of its check
abbrev pub reported_check : VolumeCheck → FvVolumeCheck
reported_check c = record {
  offset = c.offset;
  length = c.length;
  fault = (reported_outcome c.outcome).0;
  canonical = (reported_outcome c.outcome).1;
  reserved = 0;
}
