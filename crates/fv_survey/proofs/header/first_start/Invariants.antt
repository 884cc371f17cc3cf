use Rattle.std.proofs.Common.{◌≡◌, ◌-◌, ◌≤◌, ◌<◌, ℕ, length, drop, false}
use Rattle.fv_survey.specs.Words.{may_begin}
use Rattle.fv_survey.proofs.header.first_start.Given as goal

-- no volume may begin before `at`
abbrev pub invariant-loop-at : goal.invariant-loop-at
invariant-loop-at l = record {
  within : l.at ≤ length l.bytes;
  none : (k : ℕ) → k < l.at → may_begin (drop k l.bytes) ≡ false;
}

abbrev pub decreases-loop-at : goal.decreases-loop-at
decreases-loop-at l = length l.bytes - l.at
