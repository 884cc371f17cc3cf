use Rattle.std.proofs.Common.{[], ◌∷◌, shr-shr}
use Rattle.fv_base.proofs.Laws.{le_bytes}
use Rattle.fv_head.specs.Words.{canonical_offset, header_len_of, signature_bytes, system_guid}
use Rattle.fv_head.proofs.HeadWalkLemmas.{nine_joined}
use Rattle.fv_head.proofs.head_image.front_bytes.Goals as goal

pub returns-clause-bytes : goal.returns-clause-bytes
returns-clause-bytes c =
    let h = c.args.head.now in
    rw (
      ← nine_joined h.zero_vector (system_guid h.file_system) (le_bytes 8 h.length) signature_bytes (le_bytes 4 h.attributes)
          (le_bytes 2 (header_len_of h)) (le_bytes 2 c.args.checksum) (le_bytes 2 (canonical_offset h h.ext)) (h.reserved ∷ 2 ∷ []),
      shr-shr h.length 8 8,
      shr-shr h.length 16 8,
      shr-shr h.length 24 8,
      shr-shr h.length 32 8,
      shr-shr h.length 40 8,
      shr-shr h.length 48 8,
      shr-shr h.attributes 8 8,
      shr-shr h.attributes 16 8,
      c.copy_from_slice-3.ensures.after,
      c.copy_from_slice-2.ensures.after,
      c.write_u64.ensures,
      c.copy_from_slice.ensures.after,
      c.write_u32.ensures,
      c.write_u16-3.ensures,
      c.write_u16-2.ensures,
      c.write_u16.ensures,
      c.zero_vector.ensures,
      c.to_bytes.ensures,
      c.system_guid.ensures,
      c.file_system.ensures,
      c.length.ensures,
      c.bits.ensures tt,
      c.attributes.ensures,
      c.header_len.ensures.length,
      c.canonical_offset.ensures.offset,
      c.reserved.ensures,
    )
