use Rattle.fv_tree.proofs.Laws.{input_decided}
use Rattle.fv_canon.proofs.ImageLaws as laws
use Rattle.fv_canon.proofs.further_laws.every_input.Goals as goal

pub returns-clause-read : goal.returns-clause-read
returns-clause-read c = input_decided

pub returns-clause-either : goal.returns-clause-either
returns-clause-either c = laws.every_input

pub returns-clause-never : goal.returns-clause-never
returns-clause-never c = laws.never_both
