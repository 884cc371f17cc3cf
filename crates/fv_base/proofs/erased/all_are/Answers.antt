use Rattle.std.proofs.lemmas.Grind.{common_steps}
use Rattle.std.proofs.Common.{arith}
use Rattle.fv_base.proofs.ErasedLemmas.{all_pieces, piece_differs, same_test, split_is}
use Rattle.fv_base.proofs.erased.all_are.Goals as goal

pub loop-rest-preserved : goal.loop-rest-preserved
loop-rest-preserved c = grind (arith, common_steps, all_pieces, split_is)

pub returns-then-not-is_filled-clause-all : goal.returns-then-not-is_filled-clause-all
returns-then-not-is_filled-clause-all c = grind (arith, common_steps, piece_differs, split_is)

pub returns-then-not-is_filled-clause-test : goal.returns-then-not-is_filled-clause-test
returns-then-not-is_filled-clause-test c =
    same_test _ c.args.byte c.args.bytes.now
    (piece_differs c.args.byte c.args.bytes.now c.split_at.result.0.now c.split_at.result.1.now c.loop-rest.rest.now c.is_filled.result
    (split_is 4096 _ _ _ c.split_at.ensures.front c.split_at.ensures.back) c.loop-rest.invariant c.is_filled.ensures
    c.if-not-is_filled.true)

pub returns-clause-test : goal.returns-clause-test
returns-clause-test c =
    same_test _ c.args.byte c.args.bytes.now
    (λ on. c.loop-rest.invariant.0 (c.is_filled-2.ensures.0 on), λ all. c.is_filled-2.ensures.1 (c.loop-rest.invariant.1 all))
