use Rattle.std.proofs.Common.{◌∙◌, Some, ap}
use Rattle.clap.specs.Words.{Rule, rule_of}
use Rattle.clap.specs.declared.builder.action.ArgAction.TheVariants.{SetTrue}
use Rattle.clap.specs.declared.builder.arg.Arg.{Arg}
use Rattle.fv_arguments.proofs.rules.flag.Goals as goal

pub returns-clause-rule : goal.returns-clause-rule
returns-clause-rule c =
    ap rule_of c.action.ensures
    ∙ ap (λ (a : Arg). rule_of (record a { action = Some SetTrue })) c.long.ensures
    ∙ ap (λ (r : Rule). record r { long = Some c.args.name.now; action = Some SetTrue }) c.new.ensures.rule

pub returns-clause-local : goal.returns-clause-local
returns-clause-local c = rw (c.action.ensures, c.long.ensures) c.new.ensures.optional.1
