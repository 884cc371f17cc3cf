use Rattle.fv_base.proofs.Laws.{◌∙◌}
use Rattle.fv_file.proofs.FirstFileLemmas.{ok_found, begins_only, err_first}
use Rattle.fv_file.proofs.first_file.verify_ffs_file.Goals as goal

pub returns-clause-found : goal.returns-clause-found
returns-clause-found c = ok_found c.args.system c.args.polarity c.args.bytes.now c.verdict.result c.verdict.ensures

pub returns-clause-only : goal.returns-clause-only
returns-clause-only c = λ head begins. c.verdict.ensures ∙ begins_only c.args.system c.args.polarity c.args.bytes.now head begins

pub returns-clause-first : goal.returns-clause-first
returns-clause-first c = err_first c.args.system c.args.polarity c.args.bytes.now c.verdict.result c.verdict.ensures
