use Rattle.std.proofs.lemmas.Grind.{common_steps}
use Rattle.std.proofs.Common.{◌≡◌, ◌≤◌, ◌++◌, ◌∷◌, ◌∙◌, [], List, ℕ, length, length-append, ap, arith}
use Rattle.fv_base.specs.Words.{read_limit, volume_limit}
use Rattle.fv_text.specs.Words.{squeezed}
use Rattle.fv_text.proofs.WhiteSpaceLemmas.{squeezed_short}
use Rattle.fv_text.proofs.HexInLemmas.{stays_wrong, taken, taken_wrong}
use Rattle.fv_text.proofs.hex_text.DecoderCollector.take.Goals as goal

-- the pairs of the digit that waited and of the digits of a piece are at most as many as the bytes of a volume
few_digits : (was now pairs : ℕ) (waiting all piece : List ℕ) → was ≡ length waiting → now ≡ length all → all ≡ waiting ++ squeezed piece
    → pairs ≤ now → was ≤ 1 → length piece ≤ read_limit → pairs ≤ volume_limit
few_digits was now pairs waiting all piece was_is now_is joined room waited short = grind (arith, common_steps, length-append, squeezed_short)

pub returns-then-self-clause-holds : goal.returns-then-self-clause-holds
returns-then-self-clause-holds c = λ before so_far. stays_wrong c.args.self.now before c.args.piece.now c.if-self.true so_far

pub returns-in_ok-push-clause-holds : goal.returns-in_ok-push-clause-holds
returns-in_ok-push-clause-holds c = λ before so_far.
    let was = so_far.right c.if-self.false in
    let decoded = c.in_ok-decode.ensures.read in
    let left = c.in_ok-push.ensures.items ∙ ap (λ (l : List ℕ). l ++ c.in-Some.digit ∷ []) c.in_ok-decode.ensures.empty in
    record {
      wrong = λ up. taken_wrong before c.args.piece.now _ _ _ _ _ _ was (decoded.wrong up)
          c.in_ok-squeeze.ensures c.in-Some.ensures.items;
      right = λ down. taken before c.args.piece.now _ _ _ _ _ _ _ _ _ was (decoded.right down)
          c.in_ok-squeeze.ensures c.in-Some.ensures.items left;
      small = c.in_ok-decode.ensures.small (few_digits _ _ _ _ _ c.args.piece.now c.args.self.now.digits.ok.0 c.squeeze.new.digits.ok.0 c.in_ok-squeeze.ensures
          c.take_odd-last.ensures.room so_far.waiting c.requires) so_far.small;
      waiting = omega (arith, c.in_ok-push.ensures.len, c.decode.new.self.digits.ok.0, ap length c.in_ok-decode.ensures.empty);
    }

pub returns-in_default-clause-holds : goal.returns-in_default-clause-holds
returns-in_default-clause-holds c = λ before so_far.
    let was = so_far.right c.if-self.false in
    let decoded = c.in_ok-decode.ensures.read in
    record {
      wrong = λ up. taken_wrong before c.args.piece.now _ _ _ _ _ _ was (decoded.wrong up)
          c.in_ok-squeeze.ensures c.in_default.ensures.items;
      right = λ down. taken before c.args.piece.now _ _ _ _ _ _ _ _ _ was (decoded.right down)
          c.in_ok-squeeze.ensures c.in_default.ensures.items c.in_ok-decode.ensures.empty;
      small = c.in_ok-decode.ensures.small (few_digits _ _ _ _ _ c.args.piece.now c.args.self.now.digits.ok.0 c.squeeze.new.digits.ok.0 c.in_ok-squeeze.ensures
          c.take_odd-last.ensures.room so_far.waiting c.requires) so_far.small;
      waiting = omega (arith, c.decode.new.self.digits.ok.0, ap length c.in_ok-decode.ensures.empty);
    }
