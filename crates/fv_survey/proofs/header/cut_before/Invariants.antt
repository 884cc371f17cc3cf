use Rattle.std.proofs.Common.{◌≡◌, ◌+◌, ◌-◌, ◌≤◌, ◌<◌, ℕ, length, drop, false}
use Rattle.fv_survey.specs.Words.{ends_after}
use Rattle.fv_survey.proofs.header.cut_before.Given as goal

-- the volume is not cut before `at`
abbrev pub invariant-loop-at : goal.invariant-loop-at
invariant-loop-at l = record {
  within : l.at ≤ length l.bytes;
  none : (k : ℕ) → k < l.at → (m : ℕ) → k + m ≡ l.len → ends_after m (drop k l.bytes) ≡ false;
}

abbrev pub decreases-loop-at : goal.decreases-loop-at
decreases-loop-at l = l.len - l.at
