-- The header length, the size and the file checksum of a valid file in a volume follow from its attributes and data
-- (`header_follows`), so each cell of a volume is small (`small_cell`).
use Rattle.std.proofs.Common.{◌≡◌, ◌<◌, ℕ, ◌+◌, ◌^◌, List, [], ◌∷◌, length, true, ap, arith, length-append}
use Rattle.fv_base.specs.Words.{IsBytes}
use Rattle.fv_base.specs.declared.flash.FileSystem.{FileSystem}
use Rattle.fv_base.specs.declared.flash.Polarity.{Polarity}
use Rattle.fv_base.proofs.Laws.{bytes_back, bytes_front, common_steps}
use Rattle.fv_file.proofs.Laws.{cell_span, one_passed}
use Rattle.fv_file.specs.Words.{CellForm, Valid, CellsLeft, Walked, IsCell, IsFilled, offset_of, cell_len, attribute_bits, IsFile, IsSound}
use Rattle.fv_file.specs.Words.{file_sum_right, file_sum_for}
use Rattle.fv_file.specs.declared.head.FileHead.{FileHead}
use Rattle.fv_tree.specs.inner.ReadingParts.{FollowsFrom, IsSmallCell}

-- a right file checksum follows from the attributes and the data
sum_follows : (attributes file_sum : ℕ) (payload : List ℕ) → file_sum < 256 → file_sum_right attributes file_sum payload ≡ true
    → file_sum ≡ file_sum_for attributes payload
sum_follows attributes file_sum payload small h = grind (arith, common_steps)

pub header_follows : (system : FileSystem) (polarity : Polarity) (head : FileHead) (payload b : List ℕ) → IsBytes b
    → IsFilled system polarity head payload b → IsSound head payload → FollowsFrom head payload
header_follows system polarity head payload b small filled sound =
    let file : IsFile system polarity head payload filled.file = filled.is_file in
    let fields = file.is_header.fields in
    let in_file : IsBytes filled.file = bytes_front filled.file filled.filler (rw filled.text at small) in
    let in_header : IsBytes file.header = bytes_front file.header payload (rw file.text at in_file) in
    record {
      size = rw fields (omega (arith, ap (λ (k : FileHead). k.size) fields, file, ap length file.text, length-append file.header payload));
      header_len = rw fields;
      file_sum = sum_follows (attribute_bits head.attributes) head.file_sum payload (rw fields (in_header 17)) sound.file_sum;
    }

-- so each cell that a walk passes in a volume is small (`IsSmallCell`)
pub small_cell : (start left after : CellsLeft) (cs : List CellForm) (c : CellForm) → IsBytes start.rest
    → start.at + length start.rest < 2 ^ 32 → Walked start cs left → Walked left (c ∷ []) after → IsSmallCell c
small_cell start left after cs c small room w v =
    let bytes = bytes_front v.passed after.rest (rw v.text at (bytes_back w.passed left.rest (rw w.text at small))) in
    let (is, o) = one_passed left after c v in
    let lies : offset_of c + cell_len c < 2 ^ 32 =
    omega (arith, o, cell_span _ _ c v.passed is, w.place, ap length w.text, ap length v.text, length-append {A = ℕ}) in
    one c is lies bytes
  where
    one : (c : CellForm) → IsCell left.system left.polarity c v.passed → offset_of c + cell_len c < 2 ^ 32 → IsBytes v.passed → IsSmallCell c
    one (Valid o head payload) (filled, alive, sound) lies bytes =
        let follows = header_follows left.system left.polarity head payload v.passed bytes filled sound in
        (omega (arith, lies), omega (arith, lies, follows.size), follows)
    one _ is lies bytes = tt
