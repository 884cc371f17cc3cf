use Rattle.fv_base.proofs.Laws.{append-nil}
use Rattle.fv_file.proofs.new_header.whole_bytes.Goals as goal

pub returns : goal.returns
returns c =
    rw (append-nil, c.copy_from_slice-2.ensures.after, c.copy_from_slice.ensures.after, c.to_bytes.ensures)
    (rw (c.size_fields.ensures, c.is_large.ensures, c.bits.ensures tt))
