-- The door of this crate: other crates import the definitions of its `specs/` from this file. Only definitions of
-- `specs/inner/` are imported directly.
pub use Rattle.fv_base.specs.Limits.{volume_limit, header_limit, ext_limit, depth_limit}
pub use Rattle.fv_base.specs.Value.{IsBytes, le, le_bytes, field, le_at, up_to_8}
pub use Rattle.fv_base.specs.Sums.{words_of, sum16_of}
pub use Rattle.fv_base.specs.Guids.{bytes_of, guid_of}
pub use Rattle.fv_base.specs.Flash.{erased_byte, AllAre}
pub use Rattle.fv_base.specs.Alignment.{alignments, alignment_of}
pub use Rattle.fv_base.specs.Measures.{data_limit, sum8_of, IsAlignment}
unfoldable pub use Rattle.fv_base.specs.Measures.{all_are}
pub use Rattle.fv_base.specs.GuidTexts.{digit, digits, digits_at, guid_read}
unfoldable pub use Rattle.fv_base.specs.GuidTexts.{guid_text}
pub use Rattle.fv_base.specs.Faults.{OrMemory, outer_fault, out_of_memory, fault_number}
pub use Rattle.fv_base.specs.Checks.{Check, check, AllHold, FailsAfter, IsFirstFault, is_guard, GuardsHold, Which}
pub use Rattle.fv_base.specs.Checks.{First, Any, Fails}
pub use Rattle.fv_base.specs.Input.{read_limit, GivesAll, ReadsWhole, GaveCount, GaveMore, ReadStopsFor, StopsWithin}
pub use Rattle.fv_base.specs.Input.{ReadStops, WriteStops}
pub use Rattle.fv_base.specs.Port.{inner_of, has_erred, is_flushed, write_fails}
pub use Rattle.fv_base.specs.Sinks.{WalkLaws, kept_in, is_on, KeptLatched, KeptTakes, port_of, port_name, is_writing}
pub use Rattle.fv_base.specs.Sinks.{written_count, PortState, WritesBytes, WritesAll, WritesPrefix, LatchedWrites}
pub use Rattle.fv_base.specs.Sinks.{WriteTakes}
