use Rattle.std.proofs.Common.{◌≤◌, ◌*◌, length, take}
use Rattle.fv_base.proofs.Laws.{flat_map}
use Rattle.fv_compare.specs.Words.{step_text}
use Rattle.fv_compare.proofs.comparison_line.put_path.Given as goal

abbrev pub invariant-loop-step : goal.invariant-loop-step
invariant-loop-step g l = record {
  text : g.S.Sink.takes l.initial.out (flat_map step_text (take l.step-index l.steps)) l.out;
  short : length (flat_map step_text (take l.step-index l.steps)) ≤ 29 * length (take l.step-index l.steps);
}
