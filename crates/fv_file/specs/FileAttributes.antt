-- The attribute bits of a file (PI specification, volume 3, section 3.2.3.1, FFS_ATTRIB_LARGE_FILE and the other
-- FFS_ATTRIB bits).
use Rattle.std.specs.Prelude.{ℕ, ◌*◌, ◌/◌, ◌%◌, ◌==◌, Bool}
use Rattle.fv_file.specs.declared.attributes.FileAttributes.{FileAttributes}

-- the attribute bits as a number
abbrev pub attribute_bits : FileAttributes → ℕ
attribute_bits a = a.0

-- the attributes with these bits
abbrev pub attributes_by : ℕ → FileAttributes
attributes_by bits = record { 0 = bits }

-- bit 0x01, FFS_ATTRIB_LARGE_FILE, is set: the header has 32 bytes, and its field ExtendedSize states the size
abbrev pub is_large : ℕ → Bool
is_large attributes = attributes % 2 == 1

-- bit 0x04, FFS_ATTRIB_FIXED, is set: the file may not be moved
abbrev pub is_fixed : ℕ → Bool
is_fixed attributes = attributes / 4 % 2 == 1

-- bit 0x40, FFS_ATTRIB_CHECKSUM, is set: the file checksum covers the data
abbrev pub is_summed : ℕ → Bool
is_summed attributes = attributes / 64 % 2 == 1

-- the bits with 0x01 cleared: that bit belongs to the form of the header, not to the file
abbrev pub without_large : ℕ → ℕ
without_large attributes = attributes / 2 * 2
