use Rattle.std.proofs.Common.{ℕ, Option, Some, None}
use Rattle.fv_arguments.proofs.RefusalLemmas.{passed}
use Rattle.fv_arguments.specs.Words.{IsAtWord}
use Rattle.fv_arguments.proofs.options.volume_offset_of.Goals as goal

pub returns-in_err-volume_offset-in-Some : goal.returns-in_err-volume_offset-in-Some
returns-in_err-volume_offset-in-Some c =
    rw c.in-Some.is (passed _ _ _ _ c.from_residual.ensures.1 c.in_err-volume_offset-in-Some.ensures has)
  where
    has : (at : Option ℕ) → IsAtWord (Some c.in-Some.text.now) at → (n : ℕ) × IsAtWord (Some c.in-Some.text.now) (Some n)
    has None h = absurd h
    has (Some n) h = (n, h)
