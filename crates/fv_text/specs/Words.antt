-- The door of this crate: other crates import the definitions of its `specs/` from this file. Only definitions of
-- `specs/inner/` are imported directly.
pub use Rattle.fv_text.specs.HexText.{line_feed, two_digits, four_digits, line_text, last_text}
pub use Rattle.fv_text.specs.HexText.{IsHexText, ShowsBytes}
pub use Rattle.fv_text.specs.PortViews.{PortView, port_view, view_of, Change, change, Writes, StopsIn}
pub use Rattle.fv_text.specs.HexIn.{is_space, squeezed, DigitsSpell, text_limit, SpellsWhole}
pub use Rattle.fv_text.specs.HexIn.{TextFault, TextStops}
pub use Rattle.fv_text.specs.SinkAdapters.{LentTakes, Gathered, Lined}
