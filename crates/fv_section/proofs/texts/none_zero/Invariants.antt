use Rattle.std.proofs.Common.{◌≡◌, length}
use Rattle.fv_base.specs.Words.{words_of}
use Rattle.fv_section.specs.inner.FrameVerdicts.{none_zero}
use Rattle.fv_section.proofs.texts.none_zero.Given as goal

abbrev pub invariant-loop-rest : goal.invariant-loop-rest
invariant-loop-rest l = none_zero (words_of l.fn.units) ≡ none_zero (words_of l.rest)

abbrev pub decreases-loop-rest : goal.decreases-loop-rest
decreases-loop-rest l = length l.rest
