use Rattle.std.proofs.Common.{rules, ◌∙◌}
use Rattle.fv_head.proofs.HeadFaultLemmas.{ok_found, err_first, err_within}
use Rattle.fv_head.proofs.HeadCheckLemmas.{front_only}
use Rattle.fv_head.proofs.header_checks.verify_fv.Goals as goal

pub returns-clause-found : goal.returns-clause-found
returns-clause-found c = ok_found c.args.bytes.now c.verdict.result (search rules) c.verdict.ensures

pub returns-clause-only : goal.returns-clause-only
returns-clause-only c = λ h e front. c.verdict.ensures ∙ front_only c.args.bytes.now h e front

pub returns-clause-first : goal.returns-clause-first
returns-clause-first c = err_first c.args.bytes.now c.verdict.result c.verdict.ensures

pub returns-clause-bound : goal.returns-clause-bound
returns-clause-bound c = err_within c.args.bytes.now c.verdict.result c.verdict.ensures
