use Rattle.fv_text.proofs.DecidedTextLemmas.{text_decided, text_never}
use Rattle.fv_text.proofs.further_laws.every_text.Goals as goal

pub returns-clause-either : goal.returns-clause-either
returns-clause-either c = text_decided

pub returns-clause-never : goal.returns-clause-never
returns-clause-never c = text_never
