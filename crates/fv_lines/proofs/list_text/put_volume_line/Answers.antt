use Rattle.fv_lines.proofs.list_text.put_volume_line.Goals as goal

pub returns : goal.returns
returns g c =
    let head = c.head-head.ensures.head in
    let system = rw (c.system_words.ensures, c.file_system.ensures, head) at c.put.ensures in
    let size = rw (c.length.ensures, head) at c.put_decimal.ensures.text in
    let count = rw (c.from.ensures, c.file_count.ensures) at c.put_decimal-2.ensures.text in
    let name = rw head at c.put_name.ensures in
    search g.S.Sink.laws.joined depth 10
