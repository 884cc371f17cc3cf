use Rattle.fv_lines.proofs.check_text.put_cell.Goals as goal

pub returns-in-Pad : goal.returns-in-Pad
returns-in-Pad g c = rw (c.in-Pad.is, ← c.written_in.ensures) c.put_pad_note.ensures
