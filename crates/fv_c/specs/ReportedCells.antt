-- The cells of a volume, as they are reported to C (PI specification, volume 3, sections 3.2.2 and 3.2.3).
use Rattle.std.specs.Prelude.{ℕ, replicate}
use Rattle.fv_base.specs.Words.{bytes_of}
use Rattle.fv_file.specs.Words.{CellForm, Valid, Pad, Dead, Stub, Free, attribute_bits, file_header_len, is_large}
use Rattle.fv_file.specs.declared.head.FileHead.{FileHead}
use Rattle.fv_file.specs.declared.state.FileState.TheVariants as states
use Rattle.fv_c.specs.declared.cells.FvCell.{FvCell}

-- the report of a valid file or a pad: its offset, the number of its kind, and the fields of its header, which has 32
-- bytes in a large file and 24 bytes in any other
abbrev pub of_file : ℕ → ℕ → FileHead → FvCell
of_file at kind head = record {
  offset = at;
  length = head.size;
  kind = kind;
  header_length = file_header_len (is_large (attribute_bits head.attributes));
  efi_type = head.kind;
  attributes = attribute_bits head.attributes;
  name = bytes_of head.name;
  reserved = 0;
}

-- the report of a cell that is not a valid file or a pad: its offset, the number of its kind, and its length
abbrev pub of_bytes : ℕ → ℕ → ℕ → FvCell
of_bytes at kind len = record {
  offset = at;
  length = len;
  kind = kind;
  header_length = 0;
  efi_type = 0;
  attributes = 0;
  name = replicate 16 0;
  reserved = 0;
}

-- the report of a cell, with the number of its kind: 1 for a valid file, 2 for a pad, 3 for a deleted file, 4 for a file
-- whose data or header were never finished, and 5 for free space
abbrev pub reported_cell : CellForm → FvCell
reported_cell (Valid at head payload) = of_file at 1 head
reported_cell (Pad at head payload) = of_file at 2 head
reported_cell (Dead at len states.Deleted) = of_bytes at 3 len
reported_cell (Dead at len _) = of_bytes at 4 len
reported_cell (Stub at len) = of_bytes at 4 len
reported_cell (Free at len) = of_bytes at 5 len
