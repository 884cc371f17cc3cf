use Rattle.fv_base.proofs.Laws.{append-nil}
use Rattle.fv_file.proofs.NewHeaderLemmas.{le_bytes_8-low_first}
use Rattle.fv_file.proofs.new_header.size_fields.Goals as goal

pub returns-then-large : goal.returns-then-large
returns-then-large c = rw (append-nil, c.if-large.true, le_bytes_8-low_first c.args.size, c.write_u64.ensures)
