use Rattle.fv_file.proofs.MarkedFileLemmas.{fields_kept, payload_same}
use Rattle.fv_file.proofs.further_laws.marked_files_keep_fields.Goals as goal

pub returns-clause-fields : goal.returns-clause-fields
returns-clause-fields c state x long fixed = fields_kept x long fixed state

pub returns-clause-data : goal.returns-clause-data
returns-clause-data c x long fixed = payload_same x long fixed
