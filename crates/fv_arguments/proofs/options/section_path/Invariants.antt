use Rattle.std.proofs.Common.{length}
use denote.Text.{Utf8}
use denote.Shadow.{shadow}
use Rattle.fv_arguments.proofs.PathLemmas.{AreRead}
use Rattle.fv_arguments.proofs.options.section_path.Given as goal

-- the numbers before the text that is left were read
abbrev pub invariant-loop-number : goal.invariant-loop-number
invariant-loop-number l = shadow (Utf8 l.rest) × AreRead l.fn.text l.path.items l.rest

abbrev pub decreases-loop-number : goal.decreases-loop-number
decreases-loop-number l = length l.rest
