-- A file and a pad are cells if they are written as in the canonical image. The steps:
-- 1. A storable file has a header that is read again, and the right file checksum (`sum_is_right`). So the file with
--    its filler is a cell (`file_cell`). The file without its filler has a known length (`length-stored`).
-- 2. A pad with its filler is a cell too (`pad_cell`). The pad without its filler has the given size (`length-pad`).
use Rattle.std.proofs.Common.{◌≡◌, ◌≢◌, ◌≤◌, ◌<◌, ◌+◌, ◌%◌, ℕ, ◌++◌, Bool, true, false, List, length, replicate, refl, sym, ap, ◌∙◌, arith}
use Rattle.std.proofs.Common.{length-append, append_assoc, slice_index, eq-eqb}
use Rattle.fv_base.proofs.Laws.{common_steps, length-replicate, erased_byte, bytes_of, data_limit, IsBytes, bytes_append, bytes_replicate}
use Rattle.fv_base.specs.declared.flash.FileSystem.{FileSystem}
use Rattle.fv_base.specs.declared.flash.Polarity.{Polarity}
use Rattle.fv_base.specs.declared.flash.Polarity.TheVariants.{Ones, Zeros}
use Rattle.fv_base.specs.declared.flash.FileSystem.TheVariants.{Ffs3}
use Rattle.fv_file.specs.Words.{Valid, Pad, IsCell, is_large, is_fixed, pad_kind, file_sum_right, fixed_checksum, file_sum_for, needs_large}
use Rattle.fv_file.specs.Words.{with_large, pad_name, state_byte, file_fields, pad_fields, file_head_of, pad_head_of}
use Rattle.fv_file.specs.declared.head.FileHead.{FileHead}
use Rattle.fv_file.proofs.Laws.{bytes_header, complement_small, file_written, fixed_with, head_of_file, head_of_pad, length-header, pad_written}
use Rattle.fv_file.proofs.Laws.{state_small, with_large_is, summed_with, with_large_small}
use Rattle.fv_canon.specs.Words.{StoredFile, stored_len, head_len_for, stored_bytes, pad_bytes}

-- ---- a file

-- the conditions under which a written file can be read again
pub record Storable (system : FileSystem) (f : StoredFile) : Type 0 where
  pub name : length (bytes_of f.name) ≡ 16
  pub name_bytes : IsBytes (bytes_of f.name)
  pub kind_small : f.kind < 256
  pub attributes_small : f.attributes < 256
  pub kind : f.kind ≢ pad_kind
  pub short : is_large f.attributes ≡ false
  pub moves : is_fixed f.attributes ≡ false
  pub large : needs_large (length f.payload) ≡ true → system ≡ Ffs3
  pub most : length f.payload ≤ data_limit
  pub payload : IsBytes f.payload

-- the header that is written for a file
abbrev pub stored_header : Polarity → StoredFile → List ℕ
stored_header p f = file_head_of f.name f.kind (record { 0 = f.attributes }) (length f.payload) (file_sum_for f.attributes f.payload) p

-- the header that is read from a written file
abbrev pub stored_head : Polarity → StoredFile → FileHead
stored_head p f = file_fields f.name f.kind (record { 0 = f.attributes }) (length f.payload) (file_sum_for f.attributes f.payload)
    (slice_index (stored_header p f) 16)

-- the written file checksum is right
sum_is_right : (l : Bool) (a : ℕ) (payload : List ℕ) → is_large a ≡ false
    → file_sum_right (with_large l a) (file_sum_for a payload) payload ≡ true
sum_is_right l a payload h = grind (arith, common_steps, summed_with, eq-eqb)

sum_small : (a : ℕ) (payload : List ℕ) → file_sum_for a payload < 256
sum_small a payload = grind (arith, common_steps, complement_small)

length-stored_header : (system : FileSystem) (p : Polarity) (f : StoredFile) → Storable system f
    → length (stored_header p f) ≡ head_len_for (length f.payload)
length-stored_header system p f k = grind (arith, common_steps, length-header)

bytes_stored_header : (system : FileSystem) (p : Polarity) (f : StoredFile) → Storable system f → IsBytes (stored_header p f)
bytes_stored_header system p f k = grind (arith, common_steps, bytes_header, sum_small, with_large_small, state_small)

pub bytes_stored : (system : FileSystem) (p : Polarity) (f : StoredFile) → Storable system f → IsBytes (stored_bytes p f)
unfolding stored_bytes
bytes_stored system p f k = bytes_append (stored_header p f) f.payload (bytes_stored_header system p f k) k.payload

pub file_cell : (system : FileSystem) (p : Polarity) (f : StoredFile) → Storable system f → (at : ℕ) (filler : List ℕ) → length filler < 8
    → (stored_len f + length filler) % 8 ≡ 0
    → IsCell system p (Valid at (stored_head p f) f.payload) (stored_bytes p f ++ filler)
unfolding stored_bytes
file_cell system p f k at filler few multiple =
    let n : ℕ = length f.payload in
    let h : List ℕ = stored_header p f in
    let written = file_written p f.name f.kind (record { 0 = f.attributes }) n (file_sum_for f.attributes f.payload) h k.name k.short k.most
    (bytes_stored_header system p f k) refl in
    rw (append_assoc h f.payload filler) (head_of_file p (stored_head p f) h written refl system at f.payload filler
    (λ e. k.large (sym (with_large_is (needs_large n) f.attributes k.short) ∙ e)) (ap (λ (m : ℕ). m + n) (sym (length-stored_header system p f k))) (record {
      kind = k.kind;
      moves = fixed_with (needs_large n) f.attributes k.short ∙ k.moves;
      file_sum = sum_is_right (needs_large n) f.attributes f.payload k.short;
    }) few multiple)

pub length-stored : (system : FileSystem) (p : Polarity) (f : StoredFile) → Storable system f → length (stored_bytes p f) ≡ stored_len f
unfolding stored_bytes
length-stored system p f k = length-append (stored_header p f) f.payload ∙ ap (λ (m : ℕ). m + length f.payload) (length-stored_header system p f k)

-- ---- a pad

pub bytes_pad_head : (size : ℕ) (p : Polarity) → IsBytes (pad_head_of size p)
bytes_pad_head size p =
    bytes_header fixed_checksum pad_name pad_kind 0 size false (state_byte p) (bytes_replicate 16 255 (omega arith)) (omega arith)
    (omega arith) (omega arith) (state_small p)

pub bytes_erased : (p : Polarity) (n : ℕ) → IsBytes (replicate n (erased_byte p))
bytes_erased Ones n = bytes_replicate n (erased_byte Ones) (omega arith)
bytes_erased Zeros n = bytes_replicate n (erased_byte Zeros) (omega arith)

pub bytes_pad : (p : Polarity) (size : ℕ) → IsBytes (pad_bytes p size)
unfolding pad_bytes
bytes_pad p size = grind (arith, common_steps, bytes_append, bytes_pad_head, bytes_erased)

pub length-pad_head : (size : ℕ) (p : Polarity) → length (pad_head_of size p) ≡ 24
length-pad_head size p = length-header fixed_checksum pad_name pad_kind 0 size false (state_byte p) refl

pub length-pad : (p : Polarity) (size : ℕ) → 24 ≤ size → length (pad_bytes p size) ≡ size
unfolding pad_bytes
length-pad p size l = grind (arith, common_steps, length-append, length-pad_head, length-replicate)

-- a pad with any data, followed by its filler, is a cell
pub pad_cell : (system : FileSystem) (p : Polarity) (size : ℕ) (payload filler : List ℕ) → size ≤ 0xffffff → 24 + length payload ≡ size
    → length filler < 8 → (size + length filler) % 8 ≡ 0 → (at : ℕ)
    → IsCell system p (Pad at (pad_fields size (slice_index (pad_head_of size p) 16)) payload) ((pad_head_of size p ++ payload) ++ filler)
pad_cell system p size payload filler most long few multiple at =
    let h : List ℕ = pad_head_of size p in
    let cell = head_of_pad p (pad_fields size (slice_index h 16)) h (pad_written p size h most (bytes_pad_head size p) refl) refl refl refl in
    rw (append_assoc h payload filler) (cell system at payload filler (omega (arith, length-pad_head size p, long)) few multiple)
