use Rattle.std.proofs.Common.{refl}
use Rattle.fv_base.specs.declared.fault.FaultKind.TheVariants as kinds
use Rattle.fv_survey.specs.Words.{file_findings}
use Rattle.fv_survey.proofs.PieceLaws.{one_rule}
use Rattle.fv_survey.proofs.pieces.file_findings.Goals as goal

pub returns : goal.returns
unfolding file_findings
returns c = rw (
  one_rule c.with_if-6.result c.with_if-5.result c.has_sound_data-has_data.result kinds.FileSum c.with_if-6.ensures,
  one_rule c.with_if-5.result c.with_if-4.result c.may_move-may_move.result kinds.Fixed c.with_if-5.ensures,
  one_rule c.with_if-4.result c.with_if-3.result c.has_stated_size-has_size.result kinds.FileSize c.with_if-4.ensures,
  one_rule c.with_if-3.result c.with_if-2.result c.may_be_large-may_be_large.result kinds.LargeFile c.with_if-3.ensures,
  one_rule c.with_if-2.result c.with_if.result c.sums_to_zero-has_sum.result kinds.FileHeaderSum c.with_if-2.ensures,
  one_rule c.with_if.result c.of.result c.is_some-has_state.result kinds.FileState c.with_if.ensures,
  c.of.ensures,
  c.is_some-has_state.ensures,
  c.file_state.ensures,
  c.sums_to_zero-has_sum.ensures.zero,
  c.may_be_large-may_be_large.ensures,
  c.has_stated_size-has_size.ensures,
  c.may_move-may_move.ensures,
  c.has_sound_data-has_data.ensures,
) refl
