use Rattle.fv_base.proofs.Laws.{arith, ◌∙◌, refl, sym, common_steps}
use Rattle.fv_file.proofs.NewHeaderLemmas.{file_head_is, file_written, head_of_file, only_file}
use Rattle.fv_file.proofs.new_header.file_head_bytes.Goals as goal

pub returns-clause-bytes : goal.returns-clause-bytes
returns-clause-bytes c = grind (arith, common_steps, file_head_is)

pub returns-clause-read : goal.returns-clause-read
returns-clause-read c =
    let a = c.args in
    let long = rw c.file_header.ensures at c.new_header_bytes.ensures.name in
    file_written a.polarity a.name a.kind a.attributes a.data_len a.file_sum c.new_header_bytes.result long c.requires.short c.requires.most
    c.new_header_bytes.ensures.bytes (returns-clause-bytes c)

pub returns-clause-cell : goal.returns-clause-cell
returns-clause-cell c = head_of_file c.args.polarity _ c.new_header_bytes.result (returns-clause-read c) refl

pub returns-clause-only : goal.returns-clause-only
returns-clause-only c = λ header_sum h written.
    let a = c.args in
    only_file a.polarity a.name a.kind a.attributes a.data_len a.file_sum header_sum h c.requires.short written
    ∙ sym (returns-clause-bytes c)
