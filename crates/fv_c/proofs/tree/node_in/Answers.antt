use Rattle.std.proofs.Common.{◌≡◌, Some, refl}
use Rattle.std.specs.Prelude.{slice_get}
use Rattle.std.proofs.lemmas.Option.{slice_get_read}
use Rattle.fv_tree.specs.Words.{Meaning, Volume, head_of, length_of}
use Rattle.fv_c.proofs.tree.node_in.Goals as goal

-- the length of a volume is the FvLength of its header
length_in_head : (m : Meaning) → (head_of m).length ≡ length_of m
length_in_head (Volume h files) = refl

pub returns-in-Volume : goal.returns-in-Volume
returns-in-Volume c =
    rw (c.in-Volume.is, c.length.ensures, c.bits.ensures, c.attributes.ensures, c.from.ensures, c.header_len.ensures.length)
    (rw (c.volume_name.ensures, c.system_number.ensures, c.file_system.ensures, c.head-head.ensures.head, length_in_head c.in-Volume.volume.now))

pub returns-in-File : goal.returns-in-File
returns-in-File c =
    let less = rw c.in-File.is at c.requires.file in
    let at : slice_get c.args.holder.now.files.items c.args.number ≡ Some c.index.result.now =
    slice_get_read c.args.holder.now.files.items _ c.args.number c.index.result.now refl less c.index.ensures in
    rw (c.in-File.is, at, c.header_len-header_len.ensures.is, c.from-in-File.ensures, c.data_len.ensures, c.content_number.ensures)
    (rw (c.from-in-File-2.ensures, c.kind.ensures, c.from-in-File-3.ensures, c.byte.ensures, c.attributes-in-File.ensures)
    (rw (c.to_bytes.ensures, c.name.ensures.name)))
