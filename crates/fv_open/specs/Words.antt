-- The door of this crate: other crates import the definitions of its `specs/` from this file.
pub use Rattle.fv_open.specs.OpenFaults.{open_fault, open_out_of_memory, open_fault_number}
pub use Rattle.fv_open.specs.Ways.{lzma_guid, lzma_hp_guid, lzma_x86_guid, tiano_guid, crc32_guid, rsa_sha256_guid}
pub use Rattle.fv_open.specs.Ways.{contents_signed_guid, compression_way, guid_way, guided_way, is_decoded}
pub use Rattle.fv_open.specs.SectionStreams.{begins_section, are_sections, is_stream, IsStream}
pub use Rattle.fv_open.specs.Headers.{lzma_promised, tiano_promised, promised, body_offset, compression_head, data_offset}
pub use Rattle.fv_open.specs.Headers.{data_from, has_data_offset, fields_len, guided_head, head_in, way_of}
pub use Rattle.fv_open.specs.Contents.{fault_of, moved, by_way, first_value, customized, lzma_x86, standard_of, standard}
pub use Rattle.fv_open.specs.Contents.{decoded, as_stored, stored_sum, with_sum, contents_by, contents, opened, opened_form}
pub use Rattle.fv_open.specs.OpenedFrames.{opened_frame}
pub use Rattle.fv_open.specs.WorkedInputs.{short_section, compression_section, guided_section, other_guid, three_bytes}
pub use Rattle.fv_open.specs.WorkedInputs.{lzma_a, empty_section, packed_4, packed_5, gives, rejects}
