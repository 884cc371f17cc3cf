use Rattle.std.proofs.Common.{take}
use Rattle.std.specs.List.{flat_map}
use Rattle.fv_survey_lines.specs.Words.{leaf_kinds, sum_text}
use Rattle.fv_survey_lines.specs.inner.Totalled.{sum_in}
use Rattle.fv_survey_lines.proofs.totals.put_sums.Given as goal

abbrev pub invariant-loop-kind : goal.invariant-loop-kind
invariant-loop-kind g l =
    g.S.Sink.takes l.initial.out (flat_map (λ kind. sum_text kind (sum_in l.sums kind)) (take l.kind-index leaf_kinds)) l.out
