-- The data of a file are the bytes after its header (`payload_behind`). A valid file meets the conditions of `FileRead`
-- (`cell_read_in`, `cell_read`).
use Rattle.std.proofs.Common.{◌≡◌, ◌≢◌, ◌≤◌, ◌<◌, ◌+◌, ◌-◌, ℕ, ◌++◌, Bool}
use Rattle.fv_base.proofs.Laws.{true, false, List, length, take, drop, ap, ◌∙◌, subst, arith, length-append, length-drop, append_assoc, slice_index}
use Rattle.fv_base.proofs.Laws.{length-take-le, take_at, drop_at, common_steps, bytes_of, IsBytes, bytes_back, bytes_front, bytes_take, field_below}
use Rattle.fv_base.specs.declared.flash.FileSystem.{FileSystem}
use Rattle.fv_base.specs.declared.flash.Polarity.{Polarity}
use Rattle.fv_base.specs.declared.flash.FileSystem.TheVariants.{Ffs3}
use Rattle.fv_file.specs.Words.{IsCell, IsFilled, Valid, attribute_bits, is_large, is_fixed, file_header_len, file_size_in, pad_kind}
use Rattle.fv_file.specs.declared.head.FileHead.{FileHead}
use Rattle.fv_file.proofs.FileLemmas.{header_least}

-- the data of a file are the bytes after its header
pub payload_behind : (s : FileSystem) (p : Polarity) (head : FileHead) (payload b : List ℕ) → IsFilled s p head payload b
    → payload ≡ take (head.size - head.header_len) (drop head.header_len b)
payload_behind s p head payload b h = grind (arith, common_steps, append_assoc, length-append, drop_at, take_at)

-- a file with a short header has less than 0x1000000 bytes
short_size : (large : Bool) (h : List ℕ) → large ≡ false → length h ≡ file_header_len large → IsBytes h
    → file_size_in large h < 0x1000000
short_size true h short whole bytes = cc
short_size false h short whole bytes = field_below 20 3 h bytes (length-take-le 3 (drop 20 h) (omega (arith, whole, length-drop 20 h)))

-- the fields and the data of a valid file meet these conditions, if its cell has at most `limit` bytes
pub record FileRead (system : FileSystem) (limit : ℕ) (head : FileHead) (content : List ℕ) : Type 0 where
  pub name : length (bytes_of head.name) ≡ 16
  pub name_bytes : IsBytes (bytes_of head.name)
  pub kind_small : head.kind < 256
  pub attributes_small : attribute_bits head.attributes < 256
  pub kind : head.kind ≢ pad_kind
  pub moves : is_fixed (attribute_bits head.attributes) ≡ false
  pub large : is_large (attribute_bits head.attributes) ≡ true → system ≡ Ffs3
  pub short : is_large (attribute_bits head.attributes) ≡ false → 24 + length content < 0x1000000
  pub within : 24 + length content ≤ limit
  pub payload : IsBytes content

-- a valid file that is a cell of at most `limit` bytes meets these conditions
pub cell_read_in : (system : FileSystem) (p : Polarity) (limit at : ℕ) (head : FileHead) (payload x : List ℕ) → IsBytes x
    → length x ≤ limit → IsCell system p (Valid at head payload) x → FileRead system limit head payload
cell_read_in system p limit at head payload x small most (filled, alive, sound) =
    let is = filled.is_file.is_header in
    let h : List ℕ = filled.is_file.header in
    let large : Bool = is_large (slice_index h 19) in
    let parts : IsBytes (h ++ payload) =
    subst IsBytes filled.is_file.text (bytes_front filled.file filled.filler (subst IsBytes filled.text small)) in
    let hb : IsBytes h = bytes_front h payload parts in
    let sizes : head.size ≡ file_size_in large h = ap (λ (g : FileHead). g.size) is.fields in
    let least : 24 ≤ length h = omega (arith, header_least large, is.header_length) in
    let whole : head.size ≡ length h + length payload =
    filled.is_file.size ∙ ap length filled.is_file.text ∙ length-append h payload in
    let all : length x ≡ head.size + length filled.filler =
    omega (arith, ap length filled.text, length-append filled.file filled.filler, filled.is_file.size) in
    record {
      name = rw is.fields (length-take-le 16 h (omega (arith, least)));
      name_bytes = rw is.fields (bytes_take 16 h hb);
      kind_small = rw is.fields (hb 18);
      attributes_small = rw is.fields (hb 19);
      kind = sound.kind;
      moves = sound.moves;
      large = λ e. (is.large (rw is.fields at e)).0;
      short = λ e. omega (arith, short_size large h (rw is.fields at e) is.header_length hb, sizes, whole, least);
      within = omega (arith, least, whole, all, most);
      payload = bytes_back h payload parts;
    }

-- a valid file meets these conditions with the number of its cell's bytes as the limit
pub cell_read : (system : FileSystem) (p : Polarity) (at : ℕ) (head : FileHead) (payload x : List ℕ) → IsBytes x
    → IsCell system p (Valid at head payload) x → FileRead system (length x) head payload
cell_read system p at head payload x small is = cell_read_in system p (length x) at head payload x small (omega arith) is
