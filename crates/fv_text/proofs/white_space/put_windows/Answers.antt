use Rattle.std.proofs.lemmas.Grind.{common_steps}
use Rattle.std.proofs.Common.{arith, length-drop}
use Rattle.fv_text.proofs.WhiteSpaceLemmas.{dense_put, rest_put, window_put}
use Rattle.fv_text.proofs.white_space.put_windows.Goals as goal

pub loop-i-preserved : goal.loop-i-preserved
loop-i-preserved c = grind (arith, common_steps, window_put, dense_put)

pub returns : goal.returns
returns c = grind (arith, common_steps, rest_put, length-drop)
