use Rattle.std.proofs.Common.{rules, arith, sym, None, Some}
use Rattle.fv_base.proofs.Laws.{err_is, length-drop}
use Rattle.std.proofs.lemmas.Str.Pattern.{split_once_first}
use Rattle.fv_arguments.proofs.PathLemmas.{none_read, one_more, splits, same_number, last_one}
use Rattle.fv_arguments.proofs.options.section_path.Goals as goal

pub loop-number-init : goal.loop-number-init
loop-number-init c = (c.utf8.text, rw c.new-path.ensures.items (none_read c.args.text.now))

pub returns-in_err-unsigned_decimal : goal.returns-in_err-unsigned_decimal
returns-in_err-unsigned_decimal c =
    let at = split_once_first 46 c.loop-number.rest.now (Some (c.in-Some.number, c.in-Some.after)) c.in-Some.ensures.cases (omega arith) in
    rw (err_is c.from_residual.ensures.1) (λ words path h.
    let left = c.loop-number.invariant.1.only path.items h in
    let own = splits c.loop-number.rest.now left.0 at.0 left.2 in
    c.in_err-unsigned_decimal.ensures words own.0 (same_number _ _ own.0 at.1 own.3))

pub loop-number-smaller : goal.loop-number-smaller
loop-number-smaller c =
    let at = split_once_first 46 c.loop-number.rest.now (Some (c.in-Some.number, c.in-Some.after)) c.in-Some.ensures.cases (omega arith) in
    rw at.2 (rw length-drop (omega (arith, at.0)))

pub loop-number-preserved : goal.loop-number-preserved
loop-number-preserved c =
    let at = split_once_first 46 c.loop-number.rest.now (Some (c.in-Some.number, c.in-Some.after)) c.in-Some.ensures.cases (omega arith) in (
      (search rules),
      rw (c.in_ok-push.ensures.items, at.2) (one_more _ _ _ _ c.loop-number.invariant.1 at.0 (same_number _ _ _ (sym at.1) c.in_ok-unsigned_decimal.ensures)),
    )

pub returns-in_err-unsigned_decimal-2 : goal.returns-in_err-unsigned_decimal-2
returns-in_err-unsigned_decimal-2 c =
    let lacks = split_once_first 46 c.loop-number.rest.now None c.in_default.ensures.cases (omega arith) in
    rw (err_is c.from_residual-in_err-unsigned_decimal-2.ensures.1) (λ words path h.
    let left = c.loop-number.invariant.1.only path.items h in
    let own = last_one c.loop-number.rest.now left.0 lacks left.2 in
    c.in_err-unsigned_decimal-2.ensures words own.0 own.1)

pub returns : goal.returns
returns c =
    rw c.in_ok-push-2.ensures.items (c.loop-number.invariant.1.joins _ c.in_ok-unsigned_decimal-2.ensures)
