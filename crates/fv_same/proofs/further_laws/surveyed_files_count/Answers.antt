use Rattle.fv_same.proofs.PartLaws.{surveyed}
use Rattle.fv_same.proofs.further_laws.surveyed_files_count.Goals as goal

pub returns : goal.returns
returns c = surveyed
