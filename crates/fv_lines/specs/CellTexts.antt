-- The text of `cells`: where each cell of a volume lies, and the sums of the cells' lengths.
use Rattle.std.specs.Prelude.{◌≡◌, ℕ, ◌+◌, ◌-◌, List, ◌++◌, length, codes, decimal}
use Rattle.std.specs.List.{flat_map, sum_by}
use Rattle.fv_base.specs.Words.{bytes_of, guid_text, up_to_8}
use Rattle.fv_text.specs.Words.{line_feed, two_digits}
use Rattle.fv_file.specs.Words.{CellForm, Valid, Pad, Dead, Stub, Free, attribute_bits}
use Rattle.fv_file.specs.declared.state.FileState.TheVariants as states
use Rattle.fv_head.specs.declared.extent.Extent.{Extent}
use Rattle.fv_tree.specs.Words.{BeginsTiled}
use Rattle.fv_lines.specs.declared.cell_text.LengthSums.{LengthSums}

-- ---- lines

-- where a part lies: its name, the offset at which it begins, and its length of n bytes
abbrev pub span_text : List ℕ → ℕ → ℕ → List ℕ
span_text name at n = name ++ (codes " at " ++ (decimal at ++ (codes " length " ++ decimal n)))

abbrev pub span_line : List ℕ → ℕ → ℕ → List ℕ
span_line name at n = span_text name at n ++ line_feed

-- the line of a cell: where it lies, for a file or a pad with its filler; and for a valid file also its name, type and
-- attributes, as they are stored, and where its data lie
abbrev pub cell_line : CellForm → List ℕ
cell_line (Valid at head payload) =
    span_text (codes "file") at (up_to_8 head.size) ++ (codes " " ++ (guid_text (bytes_of head.name)
    ++ (codes " type " ++ (two_digits head.kind
    ++ (codes " attributes " ++ (two_digits (attribute_bits head.attributes)
    ++ (span_text (codes " data") (at + head.header_len) (length payload) ++ line_feed)))))))
cell_line (Pad at head payload) = span_line (codes "pad") at (up_to_8 head.size)
cell_line (Dead at n states.Deleted) = span_line (codes "deleted") at n
cell_line (Dead at n _) = span_line (codes "unfinished") at n
cell_line (Stub at n) = span_line (codes "unfinished") at n
cell_line (Free at n) = span_line (codes "free") at n

-- ---- sums

-- how many bytes of a cell belong to a valid file, to a pad, to a dead cell or a stub, to the filler after a file or a
-- pad, and to free space
abbrev pub lengths_of : CellForm → LengthSums
lengths_of (Valid at head payload) =
    record { files = head.size; pads = 0; deleted = 0; filler = up_to_8 head.size - head.size; free = 0 }
lengths_of (Pad at head payload) =
    record { files = 0; pads = head.size; deleted = 0; filler = up_to_8 head.size - head.size; free = 0 }
lengths_of (Dead at n state) = record { files = 0; pads = 0; deleted = n; filler = 0; free = 0 }
lengths_of (Stub at n) = record { files = 0; pads = 0; deleted = n; filler = 0; free = 0 }
lengths_of (Free at n) = record { files = 0; pads = 0; deleted = 0; filler = 0; free = n }

-- the sums of these lengths over all cells
abbrev pub sums_of : List CellForm → LengthSums
sums_of cells = record {
  files = sum_by (λ c. (lengths_of c).files) cells;
  pads = sum_by (λ c. (lengths_of c).pads) cells;
  deleted = sum_by (λ c. (lengths_of c).deleted) cells;
  filler = sum_by (λ c. (lengths_of c).filler) cells;
  free = sum_by (λ c. (lengths_of c).free) cells;
}

-- the last line, which shows the sums
abbrev pub sums_line : LengthSums → List ℕ
sums_line sums =
    codes "sums files " ++ (decimal sums.files ++ (codes " pads " ++ (decimal sums.pads
    ++ (codes " deleted " ++ (decimal sums.deleted ++ (codes " filler " ++ (decimal sums.filler
    ++ (codes " free " ++ (decimal sums.free ++ line_feed)))))))))

-- ---- the text

-- the text is the output of `cells` for the volume at the start of the input. It has a line for the header, which here is
-- all bytes before the body, so also an extended header; a line for each cell, in order; and the sums
abbrev pub CellsText : List ℕ → List ℕ → Type 0
CellsText input text = (e : Extent) × (cells : List CellForm) × BeginsTiled e cells input
    × (text ≡ span_line (codes "header") 0 e.first ++ (flat_map cell_line cells ++ sums_line (sums_of cells)))
