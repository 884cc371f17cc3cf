use Rattle.fv_base.proofs.Laws.{◌∙◌, refl, sym}
use Rattle.fv_file.proofs.NewHeaderLemmas.{pad_written, head_of_pad, only_pad}
use Rattle.fv_file.proofs.new_header.pad_head_bytes.Goals as goal

pub returns-clause-bytes : goal.returns-clause-bytes
returns-clause-bytes c = rw c.pad_header.ensures at c.new_header_bytes.ensures.is

pub returns-clause-read : goal.returns-clause-read
returns-clause-read c =
    pad_written c.args.polarity c.args.size c.new_header_bytes.result c.requires.most c.new_header_bytes.ensures.bytes (returns-clause-bytes c)

pub returns-clause-cell : goal.returns-clause-cell
returns-clause-cell c = head_of_pad c.args.polarity _ c.new_header_bytes.result (returns-clause-read c) refl refl refl

pub returns-clause-only : goal.returns-clause-only
returns-clause-only c = λ header_sum h written. only_pad c.args.polarity c.args.size header_sum h written ∙ sym (returns-clause-bytes c)
