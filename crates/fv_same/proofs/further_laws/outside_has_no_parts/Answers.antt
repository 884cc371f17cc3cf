use Rattle.fv_same.proofs.PartLaws.{dead_out, left_out, pad_out, superseded_out}
use Rattle.fv_same.proofs.further_laws.outside_has_no_parts.Goals as goal

pub returns-clause-pads : goal.returns-clause-pads
returns-clause-pads c = pad_out

pub returns-clause-dead : goal.returns-clause-dead
returns-clause-dead c = dead_out

pub returns-clause-superseded : goal.returns-clause-superseded
returns-clause-superseded c = superseded_out

pub returns-clause-rows : goal.returns-clause-rows
returns-clause-rows c = left_out
