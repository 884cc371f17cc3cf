use Rattle.fv_base.proofs.Laws.{err_is}
use Rattle.fv_arguments.proofs.ArgumentReadLemmas.{read}
use Rattle.fv_arguments.proofs.RefusalLemmas.{read_of, rejected}
use Rattle.fv_arguments.proofs.options.parse_command.Goals as goal

pub returns-in_err-matches-clause-wrong : goal.returns-in_err-matches-clause-wrong
returns-in_err-matches-clause-wrong c =
    rejected c.args.name.now _ c.in_ok-rules_of.ensures _ c.in_err-matches.field-0.0 c.in_err-matches.ensures.kinds _
    c.from_residual-in_err-matches.ensures.1

pub returns-in_err-command-clause-wrong : goal.returns-in_err-command-clause-wrong
returns-in_err-command-clause-wrong c =
    let found = c.in_ok-matches.ensures in
    let r = read _ c.args.name.now _ c.in_ok-rules_of.ensures found.matches found.kinds in
    rw (err_is c.from_residual-in_err-command.ensures.1) (λ is right. c.in_err-command.ensures is _ r right)

pub returns-clause-asks : goal.returns-clause-asks
returns-clause-asks c =
    let found = c.in_ok-matches.ensures in
    let r = read _ c.args.name.now _ c.in_ok-rules_of.ensures found.matches found.kinds in
    let asked = c.in_ok-command.ensures _ r in
    let own = read_of _ _ asked.0 r in
    record {
      command = asked.0;
      taken = own.taken;
      hex = c.is_given-hex.ensures _ _ own;
      texts = asked.1;
    }
