-- The door of this crate: other crates import the definitions of its `specs/` from this file. Only definitions of
-- `specs/inner/` are imported directly.
pub use Rattle.fv_opened.specs.OpenedTexts.{packed_part, HasNothingPacked, way_text}
pub use Rattle.fv_opened.specs.OpenedTexts.{caution_text, opened_text, fault_text}
pub use Rattle.fv_opened.specs.OpenedTexts.{unopened_text, too_deep_text, spent_text, unlisted_text, PackedRelation}
pub use Rattle.fv_opened.specs.OpenedTexts.{ContentsRelation, SectionText, PartText, RowsOver, Unlisted, ContentsOver, OpenedOver}
pub use Rattle.fv_opened.specs.OpenedTexts.{PackedOver, PackedText, OpenedRows, OpenedListText}
pub use Rattle.fv_opened.specs.WorkedLists.{compression_of, stored_section, budget_of}
