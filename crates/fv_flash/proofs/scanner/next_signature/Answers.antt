use Rattle.std.proofs.Common.{sym, ◌∙◌, arith}
use Rattle.fv_flash.proofs.ScanLaws.{reached_first, reached_more, from_joined, none_past, none_unsigned}
use Rattle.fv_flash.proofs.scanner.next_signature.Goals as goal

pub loop-at-init : goal.loop-at-init
loop-at-init c = reached_first c.args.bytes.now c.args.from c.requires.multiple c.requires.within

pub loop-at-preserved : goal.loop-at-preserved
loop-at-preserved c =
    reached_more c.args.bytes.now c.args.from c.loop-at.at c.loop-at.invariant (omega (arith, c.loop-at-test.true))
    (none_unsigned c.args.bytes.now c.loop-at.at (sym c.is_signed.ensures ∙ c.if-is_signed.false))

pub returns-clause-none : goal.returns-clause-none
returns-clause-none c =
    from_joined c.args.bytes.now c.args.from c.loop-at.at c.loop-at.invariant.none
    (none_past c.args.bytes.now c.loop-at.at (omega (arith, c.loop-at-test.false)))
