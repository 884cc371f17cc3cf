-- The cells of a volume's body (PI specification, volume 3, sections 3.2.2 and 3.2.3).
use Rattle.std.specs.Prelude.{◌≡◌, ℕ, ◌+◌, ◌%◌, ◌<◌, ◌⊎◌, Bool, true, false, List, [], ◌∷◌, ◌++◌, length}
use Rattle.fv_base.specs.Words.{AllAre, erased_byte}
use Rattle.fv_base.specs.declared.flash.FileSystem.{FileSystem}
use Rattle.fv_base.specs.declared.flash.Polarity.{Polarity}
use Rattle.fv_file.specs.FileAttributes.{is_large}
use Rattle.fv_file.specs.FileHeaders.{attributes_at, file_header_len, pad_kind, state_at, IsFile, IsSound}
use Rattle.fv_file.specs.States.{StateOf, is_alive}
use Rattle.fv_file.specs.declared.head.FileHead.{FileHead}
use Rattle.fv_file.specs.declared.state.FileState.{FileState}
use Rattle.fv_file.specs.declared.state.FileState.TheVariants as states

-- a cell: its offset, in bytes from the volume's start, and then the header and the data of a valid file or pad, or the
-- length of any other cell, and for a dead cell also its state
pub data CellForm : Type 0 where
  Valid : ℕ → FileHead → List ℕ → CellForm
  Pad : ℕ → FileHead → List ℕ → CellForm
  Dead : ℕ → ℕ → FileState → CellForm
  Stub : ℕ → ℕ → CellForm
  Free : ℕ → ℕ → CellForm

-- the offset at which a cell begins
abbrev pub offset_of : CellForm → ℕ
offset_of (Valid at head payload) = at
offset_of (Pad at head payload) = at
offset_of (Dead at len state) = at
offset_of (Stub at len) = at
offset_of (Free at len) = at

-- the cell is free
abbrev pub is_free : CellForm → Bool
is_free (Free at len) = true
is_free _ = false

-- the bytes are a file and then its filler, which is up to 7 bytes of any value and makes the length a multiple of 8
pub record IsFilled (system : FileSystem) (polarity : Polarity) (head : FileHead) (payload b : List ℕ) : Type 0 where
  pub file : List ℕ
  pub filler : List ℕ
  pub text : b ≡ file ++ filler
  pub is_file : IsFile system polarity head payload file
  pub short : length filler < 8
  pub multiple : length b % 8 ≡ 0

-- the bytes are this cell: a valid file, a pad, a dead file (deleted, or only its header is valid), a stub (a header
-- under construction or an invalid header), or free space (erased bytes)
abbrev pub IsCell : FileSystem → Polarity → CellForm → List ℕ → Type 0
IsCell system polarity (Valid at head payload) b =
    IsFilled system polarity head payload b × (is_alive head.state ≡ true) × IsSound head payload
IsCell system polarity (Pad at head payload) b =
    IsFilled system polarity head payload b × (is_alive head.state ≡ true) × (head.kind ≡ pad_kind)
IsCell system polarity (Dead at len state) b =
    (head : FileHead) × (payload : List ℕ) × IsFilled system polarity head payload b × (head.state ≡ state)
    × ((state ≡ states.HeaderValid) ⊎ (state ≡ states.Deleted)) × (len ≡ length b)
IsCell system polarity (Stub at len) b =
    (StateOf (state_at b) polarity states.Construction ⊎ StateOf (state_at b) polarity states.HeaderInvalid)
    × (length b ≡ file_header_len (is_large (attributes_at b))) × (len ≡ length b)
IsCell system polarity (Free at len) b = (0 < len) × AllAre (erased_byte polarity) b × (len ≡ length b)

-- the bytes are these cells, one after the other, the first of them at the offset `at`; only the last may be a free
-- cell
abbrev pub Tiles : FileSystem → Polarity → ℕ → List CellForm → List ℕ → Type 0
Tiles system polarity at [] b = b ≡ []
Tiles system polarity at (c ∷ cs) b =
    (x : List ℕ) × (rest : List ℕ) × (b ≡ x ++ rest) × IsCell system polarity c x × (offset_of c ≡ at)
    × (is_free c ≡ true → cs ≡ []) × Tiles system polarity (at + length x) cs rest
