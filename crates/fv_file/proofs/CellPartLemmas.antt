-- A cell has as many bytes as its fields say (`cell_span`), and has at least one byte (`not_empty`). The header and the
-- data of a file make up its size (`made_up`). All bytes of a free cell are erased (`free_all`).
use Rattle.std.proofs.Common.{◌≡◌, ◌≤◌, ◌+◌, ℕ}
use Rattle.fv_base.proofs.Laws.{List, length, arith, true, false, length-append, common_steps, AllAre, erased_byte, up_to_8}
use Rattle.fv_base.specs.declared.flash.FileSystem.{FileSystem}
use Rattle.fv_base.specs.declared.flash.Polarity.{Polarity}
use Rattle.fv_file.specs.Words.{CellForm, Free, offset_of, is_free, IsFilled, IsCell, cell_len, LengthsAgree}
use Rattle.fv_file.specs.declared.head.FileHead.{FileHead}
use Rattle.fv_file.proofs.FileLemmas.{header_least}
use Rattle.fv_file.proofs.TilingLemmas.{NotEmpty}

-- ---- the number of a cell's bytes

-- a file with its filler has the size of the file, rounded up to 8
pub filled_span : (s : FileSystem) (p : Polarity) (head : FileHead) (payload b : List ℕ) → IsFilled s p head payload b
    → up_to_8 head.size ≡ length b
filled_span s p head payload b filled = grind (arith, common_steps, length-append)

pub cell_span : (s : FileSystem) (p : Polarity) (c : CellForm) (u : List ℕ) → IsCell s p c u → cell_len c ≡ length u
cell_span s p c u is = grind (arith, common_steps, filled_span) steps 150000

-- a file has at least the 24 bytes of a header
file_least : (s : FileSystem) (p : Polarity) (head : FileHead) (payload b : List ℕ) → IsFilled s p head payload b → 24 ≤ length b
file_least s p head payload b filled = grind (arith, common_steps, length-append, header_least)

pub not_empty : (s : FileSystem) (p : Polarity) → NotEmpty s p
not_empty s p given u is = grind (arith, common_steps, file_least, header_least) steps 150000

-- a cell that is not free has at least 24 bytes
pub cell_least : (s : FileSystem) (p : Polarity) (c : CellForm) (u : List ℕ) → IsCell s p c u → is_free c ≡ false → 24 ≤ length u
cell_least s p c u is used = grind (arith, common_steps, file_least, header_least) steps 150000

-- ---- the parts of a cell

pub file_made_up : (s : FileSystem) (p : Polarity) (head : FileHead) (payload b : List ℕ) → IsFilled s p head payload b
    → head.header_len + length payload ≡ head.size
file_made_up s p head payload b filled = grind (arith, common_steps, length-append)

-- in a file or pad, the lengths of the header and of the data add up to the size
pub made_up : (s : FileSystem) (p : Polarity) (c : CellForm) (u : List ℕ) → IsCell s p c u → LengthsAgree c
made_up s p c u is = grind (arith, common_steps, file_made_up) steps 150000

-- a free cell has the length of its bytes, and all of them are erased
pub free_all : (s : FileSystem) (p : Polarity) (c : CellForm) (u : List ℕ) → IsCell s p c u → is_free c ≡ true
    → (c ≡ Free (offset_of c) (length u)) × AllAre (erased_byte p) u
free_all s p c u is f = grind (arith, common_steps) steps 150000
