use Rattle.fv_base.proofs.Laws.{First}
use Rattle.fv_file.proofs.BodyLemmas.{body_decided, none_after}
use Rattle.fv_file.proofs.further_laws.every_body.Goals as goal

pub returns-clause-either : goal.returns-clause-either
returns-clause-either c = body_decided

pub returns-clause-never : goal.returns-clause-never
returns-clause-never c s p first body cells f tiles fault = none_after First s p first body f cells fault tiles
