use Rattle.std.proofs.Common.{rules, ◌≤◌, arith, subst, take, take_all}
use Rattle.fv_base.proofs.Laws.{All, All-weaker}
use Rattle.std.proofs.lemmas.List.Elements.{All-more}
use Rattle.fv_text.proofs.WhiteSpaceLemmas.{dense}
use Rattle.fv_text.proofs.white_space.is_dense.Goals as goal

pub loop-byte-preserved : goal.loop-byte-preserved
loop-byte-preserved c =
    All-more (λ b. c.min-least.result ≤ b) c.args.window.now c.loop-byte.byte-index 0 (search rules)
    (All-weaker (λ b. c.loop-byte.least ≤ b) (λ b. c.min-least.result ≤ b) (λ b le. grind arith) (take c.loop-byte.byte-index c.args.window.now)
    c.loop-byte.invariant)
    (grind arith)

pub returns : goal.returns
returns c = λ above.
    dense c.args.window.now c.loop-byte.least (grind arith)
    (subst (All (λ b. c.loop-byte.least ≤ b)) (take_all c.loop-byte.byte-index c.args.window.now (omega arith)) c.loop-byte.invariant)
