use Rattle.fv_base.proofs.Laws.{◌∙◌, ap, bytes_of, le_bytes}
use Rattle.fv_head.specs.Words.{entries_bytes, ext_spelled}
use Rattle.fv_head.proofs.ExtImageLemmas.{ext_again}
use Rattle.fv_head.proofs.HeadWalkLemmas.{renamed}
use Rattle.fv_head.proofs.ext_image.put_ext.Goals as goal

pub returns-clause-bytes : goal.returns-clause-bytes
unfolding ext_spelled
returns-clause-bytes g c =
    let laws = g.S.Sink.laws in
    let name = renamed g.S.Sink.takes c.put.ensures (c.to_bytes.ensures ∙ ap bytes_of c.name.ensures.name) in
    let size = renamed g.S.Sink.takes c.put_u32.ensures (ap (le_bytes 4) c.len_of_ext-len.ensures.len) in
    let entries = renamed g.S.Sink.takes c.put_entries.ensures (ap (entries_bytes c.args.used) c.entries.ensures) in
    let tail = renamed g.S.Sink.takes c.put-2.ensures c.tail.ensures in
    laws.joined (laws.joined (laws.joined name size) entries) tail

pub returns-clause-len : goal.returns-clause-len
returns-clause-len g c = (ext_again c.args.ext.now c.args.used c.len_of_ext-len.ensures.read).1
