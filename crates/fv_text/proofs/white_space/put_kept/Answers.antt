use Rattle.std.proofs.lemmas.Grind.{common_steps}
use Rattle.std.proofs.Common.{arith}
use Rattle.fv_text.proofs.WhiteSpaceLemmas.{put_next, count_small}
use Rattle.fv_text.proofs.white_space.put_kept.Goals as goal

pub loop-i-preserved : goal.loop-i-preserved
loop-i-preserved c = grind (arith, common_steps, count_small, put_next)
