use Rattle.std.proofs.Common.{◌-◌}
use Rattle.fv_survey.specs.Words.{bits_of}
use Rattle.fv_survey_lines.specs.Words.{findings_text, numbers_from}
use Rattle.fv_survey_lines.proofs.row_text.put_findings.Given as goal

-- once the numbers that are left are put, all numbers are put
abbrev pub invariant-loop-number : goal.invariant-loop-number
invariant-loop-number g l =
    (end : _) → g.S.Sink.takes l.out (numbers_from l.word l.number (32 - l.number) (bits_of l.fn.findings)) end
    → g.S.Sink.takes l.initial.out (findings_text l.fn.findings) end
