-- The door of this crate: other crates import the definitions of its `specs/` from this file. Only definitions of
-- `specs/inner/` are imported directly.
pub use Rattle.fv_lines.specs.ScanLines.{volume_place, volume_line}
pub use Rattle.fv_lines.specs.HobLines.{IsMapped, bytes_in_span, IsSpanContent, MappedForm, held_image}
pub use Rattle.fv_lines.specs.HobLines.{hob_line, span_content_word, IsSpanWord, HobLines, HobsText}
pub use Rattle.fv_lines.specs.CellTexts.{span_text, span_line, cell_line, lengths_of, sums_of, sums_line, CellsText}
pub use Rattle.fv_lines.specs.Notes.{written_in, pad_line, pad_note, pad_notes, HeldDepex, phase_of, read_by}
pub use Rattle.fv_lines.specs.Notes.{section_depex, file_depexes, depexes_in, IsNoted, AreNotes, depex_line, depex_lines}
pub use Rattle.fv_lines.specs.Notes.{verdict_line}
pub use Rattle.fv_lines.specs.ListTexts.{unit_text, Shows, LeafText, BodyShown, spaces, digest_text, system_text, name_text}
pub use Rattle.fv_lines.specs.ListTexts.{form_text, section_start, node_text, NodeText, RowsText, ListText}
