-- A header that is written is read again as its fields, and no other bytes are the header of these fields. The steps:
-- 1. A header is its name, and then fields at known places (`header_parts`, `at_behind`).
-- 2. The header checksum is added to the sum of the other bytes (`header_sum_is`), so one byte makes the sum 0: the
--    complement (`complement_right`, `complement_only`).
-- 3. The fields are read again (`size_is`, `fields_are`). So with the right header checksum, the bytes are the header
--    of these fields (`written_is`).
-- 4. A header with data and filler is a file or a pad (`head_of_file`, `head_of_pad`). The bytes that are written for a
--    file and for a pad are the headers of their fields (`file_written`, `pad_written`).
-- 5. Conversely, bytes that are the header of some fields are the bytes that are written for these fields (`form_of`,
--    `only_written`), for a file and for a pad (`only_file`, `only_pad`).
-- 6. A written header has the length of its form, and each element is a byte (`length-header`, `bytes_header`).
use Rattle.std.proofs.Common.{◌≡◌, ◌≤◌, ◌<◌, ◌+◌, ◌%◌, ◌^◌, ℕ, [], ◌∷◌, ◌++◌, sum, get_or-append-add, shr-shr}
use Rattle.fv_base.proofs.Laws.{Bool, true, false, List, length, take, drop, refl, sym, ap, ◌∙◌, subst, arith, append_assoc, length-append}
use Rattle.fv_base.proofs.Laws.{length-drop, drop-drop, slice_index, take-append-drop, take_at, take_all, length-take-le, common_steps}
use Rattle.fv_base.proofs.Laws.{take-append-add, drop_more, drop_all, length-replicate, sum_by-append, nat_tests, bytes_of, data_limit, IsBytes, le}
use Rattle.fv_base.proofs.Laws.{le_bytes, field, le_at, field_is, le-le_bytes, bytes_append, bytes_cons, bytes_le_bytes, none_at}
use Rattle.std.specs.Int.{bytes_low_first}
use Rattle.std.proofs.Math.Seq.{drop-append-add}
use Rattle.fv_base.specs.declared.flash.FileSystem.{FileSystem}
use Rattle.fv_base.specs.declared.flash.Polarity.{Polarity}
use Rattle.fv_base.specs.declared.guid.Guid.{Guid}
use Rattle.fv_base.specs.declared.flash.FileSystem.TheVariants.{Ffs3}
use Rattle.fv_base.specs.declared.flash.Polarity.TheVariants.{Ones, Zeros}
use Rattle.fv_file.specs.Words.{IsFilled, attribute_bits, is_large, file_header_len, head_in, header_sum_of, pad_kind, file_size_in, IsFileHeader}
use Rattle.fv_file.specs.Words.{StateOf, is_alive, state_of, IsNewHeader, IsHeadOfFile, IsHeadOfPad, header_fields, file_fields, pad_fields, complement}
use Rattle.fv_file.specs.Words.{file_head_of, header_bytes, header_with, needs_large, pad_head_of, state_byte, with_large}
use Rattle.fv_file.specs.declared.head.FileHead.{FileHead}
use Rattle.fv_file.specs.declared.attributes.FileAttributes.{FileAttributes}
use Rattle.fv_file.specs.declared.new_header.NewHeader.{NewHeader}
use Rattle.fv_file.specs.inner.NewHeaderParts.{file_header, new_header_bytes}
use Rattle.fv_file.proofs.FileAttributeLemmas.{set_large}
use Rattle.fv_file.proofs.FileLemmas.{header_least}
use Rattle.fv_file.specs.declared.state.FileState.TheVariants as states

-- the eight bytes of a number, in the order in which they are written
pub le_bytes_8-low_first : (n : ℕ) → le_bytes 8 n ≡ bytes_low_first 0 8 n
le_bytes_8-low_first n = rw (shr-shr n 8 8, shr-shr n 16 8, shr-shr n 24 8, shr-shr n 32 8, shr-shr n 40 8, shr-shr n 48 8)

-- ---- a header in parts

-- the number in the Size field: zero in a large header, and otherwise the size
abbrev short_size : Bool → ℕ → ℕ
short_size true size = 0
short_size false size = size

-- the bytes after State: the size in a large header, and otherwise no bytes
abbrev long_size : Bool → ℕ → List ℕ
long_size true size = le_bytes 8 size
long_size false size = []

-- the size of a file is less than this number: 2 ^ 64 with a large header, and otherwise 2 ^ 24
abbrev size_limit : Bool → ℕ
size_limit true = 2 ^ 64
size_limit false = 2 ^ 24

-- the bytes of a header after the name
abbrev behind_name : ℕ → ℕ → ℕ → ℕ → ℕ → ℕ → List ℕ → List ℕ
behind_name header_sum file_sum kind attributes short state long =
    header_sum ∷ file_sum ∷ kind ∷ attributes ∷ (le_bytes 3 short ++ (state ∷ long))

-- the bytes of a header with these fields
abbrev spelled : FileHead → Bool → ℕ → List ℕ
spelled h large state =
    header_with h.header_sum h.file_sum (bytes_of h.name) h.kind (attribute_bits h.attributes) h.size large state

-- the bytes of a header with these fields, after the name
abbrev rest_of : FileHead → Bool → ℕ → List ℕ
rest_of h large state =
    behind_name h.header_sum h.file_sum h.kind (attribute_bits h.attributes) (short_size large h.size) state (long_size large h.size)

-- the fields that a header of this form has when it is read
abbrev formed : FileHead → Bool → FileHead
formed h large = header_fields (bytes_of h.name) h.kind (attribute_bits h.attributes) h.size large h.header_sum h.file_sum

header_parts : (h : FileHead) (large : Bool) (state : ℕ) → spelled h large state ≡ bytes_of h.name ++ rest_of h large state
header_parts h true state = simp append_assoc
header_parts h false state = simp append_assoc

-- byte 16 + k after a name of 16 bytes is byte k of the bytes after the name
at_behind : (k : ℕ) (name rest : List ℕ) → length name ≡ 16 → slice_index (name ++ rest) (16 + k) ≡ slice_index rest k
at_behind k name rest long = grind (arith, common_steps, get_or-append-add)

drop_behind : (k : ℕ) (name rest : List ℕ) → length name ≡ 16 → drop (16 + k) (name ++ rest) ≡ drop k rest
drop_behind k name rest long = subst (λ (n : ℕ). drop (n + k) (name ++ rest) ≡ drop k rest) long (drop-append-add name rest k)

-- ---- the header sum

-- the sum of a header, with file checksum and State taken as zero, is the sum of its other bytes plus the header
-- checksum
sum_apart : (name l : List ℕ) (a b c d e f g h : ℕ) → length name ≡ 16
    → header_sum_of (name ++ (a ∷ b ∷ c ∷ d ∷ e ∷ f ∷ g ∷ h ∷ l)) ≡ (sum (name ++ (0 ∷ 0 ∷ c ∷ d ∷ e ∷ f ∷ g ∷ 0 ∷ l)) + a) % 256
sum_apart name l a b c d e f g h long =
    let rest : List ℕ = a ∷ b ∷ c ∷ d ∷ e ∷ f ∷ g ∷ h ∷ l in
    let joined : (xs ys : List ℕ) → sum (xs ++ ys) ≡ sum xs + sum ys = λ xs ys. sum_by-append (λ (x : ℕ). x) xs ys in
    omega (
      arith,
      ap sum (rw long at (take-append-add name rest 1)) ∙ joined name (a ∷ []),
      ap (λ (xs : List ℕ). sum (take 5 xs)) (drop_behind 2 name rest long),
      ap sum (drop_behind 8 name rest long),
      joined name (0 ∷ 0 ∷ c ∷ d ∷ e ∷ f ∷ g ∷ 0 ∷ l),
      joined (0 ∷ 0 ∷ c ∷ d ∷ e ∷ f ∷ g ∷ 0 ∷ []) l,
    )

-- the sum of the bytes of a header with both checksums and State zero
abbrev bare_sum : FileHead → Bool → ℕ
bare_sum h large = sum (spelled (record h { header_sum = 0; file_sum = 0 }) large 0)

header_sum_is : (h : FileHead) (large : Bool) (state : ℕ) → length (bytes_of h.name) ≡ 16
    → header_sum_of (spelled h large state) ≡ (bare_sum h large + h.header_sum) % 256
header_sum_is h large state long = grind (arith, common_steps, header_parts, sum_apart)

-- the complement of a sum makes it 0 modulo 256, and no other byte does
complement_right : (n : ℕ) → (n + complement n) % 256 ≡ 0
complement_right n = omega arith

complement_only : (n a : ℕ) → a < 256 → (n + a) % 256 ≡ 0 → a ≡ complement n
complement_only n a small right = omega arith

pub complement_small : (n : ℕ) → complement n < 256
complement_small n = omega arith

-- ---- a header, read

-- the size of a written header is read again
size_is : (h : FileHead) (large : Bool) (state : ℕ) → length (bytes_of h.name) ≡ 16 → h.size < size_limit large
    → file_size_in large (bytes_of h.name ++ rest_of h large state) ≡ h.size
size_is h true state long small = ap (λ (xs : List ℕ). le (take 8 xs)) (drop_behind 8 (bytes_of h.name) _ long) ∙ le-le_bytes 8 h.size small
size_is h false state long small = ap (λ (xs : List ℕ). le (take 3 xs)) (drop_behind 4 (bytes_of h.name) _ long) ∙ le-le_bytes 3 h.size small

-- the Size field of a large header is zero
large_size_zero : (h : FileHead) (large : Bool) (state : ℕ) → length (bytes_of h.name) ≡ 16 → large ≡ true
    → le_at 20 3 (bytes_of h.name ++ rest_of h large state) ≡ 0
large_size_zero h true state long is = ap (λ (xs : List ℕ). le (take 3 xs)) (drop_behind 4 (bytes_of h.name) (rest_of h true state) long)
large_size_zero h false state long is = cc

-- the fields of a written header are read again
fields_are : (h : FileHead) (large : Bool) (state : ℕ) → length (bytes_of h.name) ≡ 16 → is_large (attribute_bits h.attributes) ≡ large
    → h.size < size_limit large → formed h large ≡ head_in states.DataValid (bytes_of h.name ++ rest_of h large state)
fields_are h large state long is small =
    let name : List ℕ = bytes_of h.name in
    let rest : List ℕ = rest_of h large state in
    rw (
      take_at name rest 16 long,
      at_behind 0 name rest long,
      at_behind 1 name rest long,
      at_behind 2 name rest long,
      at_behind 3 name rest long,
      is,
      size_is h large state long small,
    ) refl

-- a written header has the length of its form
length_is : (h : FileHead) (large : Bool) (state : ℕ) → length (bytes_of h.name) ≡ 16
    → length (bytes_of h.name ++ rest_of h large state) ≡ file_header_len large
length_is h true state long = length-append (bytes_of h.name) (rest_of h true state) ∙ ap (λ (n : ℕ). n + 16) long
length_is h false state long = length-append (bytes_of h.name) (rest_of h false state) ∙ ap (λ (n : ℕ). n + 8) long

-- the State byte of a new file shows that its data are valid
state_byte_is : (polarity : Polarity) → StateOf (state_byte polarity) polarity states.DataValid
unfolding state_of
state_byte_is Ones = refl
state_byte_is Zeros = refl

-- a header with the right header checksum is the new header of its fields
written_with : (polarity : Polarity) (h : FileHead) (large : Bool) → length (bytes_of h.name) ≡ 16
    → is_large (attribute_bits h.attributes) ≡ large → h.size < size_limit large → (bare_sum h large + h.header_sum) % 256 ≡ 0
    → IsBytes (spelled h large (state_byte polarity)) → IsNewHeader polarity (formed h large) (spelled h large (state_byte polarity))
written_with polarity h large long is small right bytes = grind (arith, common_steps, header_parts, at_behind, length_is, fields_are, state_byte_is, large_size_zero, header_sum_is)

-- the header checksum of a header is byte 16
sum_at : (h : FileHead) (large : Bool) (state : ℕ) → length (bytes_of h.name) ≡ 16 → slice_index (spelled h large state) 16 ≡ h.header_sum
sum_at h large state long = ap (λ (b : List ℕ). slice_index b 16) (header_parts h large state) ∙ at_behind 0 (bytes_of h.name) _ long

-- the bytes of a header with the right header checksum, which are read again as its fields
abbrev right_bytes : FileHead → Bool → ℕ → List ℕ
right_bytes h large state = header_bytes h.file_sum (bytes_of h.name) h.kind (attribute_bits h.attributes) h.size large state

written_is : (polarity : Polarity) (h : FileHead) (large : Bool) → length (bytes_of h.name) ≡ 16
    → is_large (attribute_bits h.attributes) ≡ large → h.size < size_limit large → IsBytes (right_bytes h large (state_byte polarity))
    → IsNewHeader polarity (formed (record h { header_sum = slice_index (right_bytes h large (state_byte polarity)) 16 }) large)
    (right_bytes h large (state_byte polarity))
unfolding header_bytes
written_is polarity h large long is small bytes =
    let right : FileHead = record h { header_sum = complement (bare_sum h large) } in
    rw (sum_at right large (state_byte polarity) long)
    (written_with polarity right large long is small (complement_right (bare_sum h large)) bytes)

-- ---- a header, data and filler are a cell

filled : (system : FileSystem) (polarity : Polarity) (head : FileHead) (h payload filler : List ℕ) → IsFileHeader system polarity head h
    → head.size ≡ length h + length payload
    → length filler < 8 → (head.size + length filler) % 8 ≡ 0 → IsFilled system polarity head payload (h ++ (payload ++ filler))
filled system polarity head h payload filler is size short multiple = record {
  file = h ++ payload;
  filler = filler;
  text = sym (append_assoc h payload filler);
  is_file = record { header = h; text = refl; is_header = is; size = size ∙ sym (length-append h payload) };
  short = short;
  multiple = omega (arith, size, multiple, length-append h (payload ++ filler), length-append payload filler);
}

pub head_of_file : (polarity : Polarity) (head : FileHead) (h : List ℕ) → IsNewHeader polarity head h → is_alive head.state ≡ true
    → IsHeadOfFile polarity head h
head_of_file polarity head h written alive = λ system at payload filler only size sound short multiple.
    (filled system polarity head h payload filler (written.header system only) size short multiple, alive, sound)

pub head_of_pad : (polarity : Polarity) (head : FileHead) (h : List ℕ) → IsNewHeader polarity head h → is_alive head.state ≡ true
    → head.kind ≡ pad_kind
    → is_large (attribute_bits head.attributes) ≡ false → IsHeadOfPad polarity head h
head_of_pad polarity head h written alive pad short = λ system at payload filler size little multiple.
    (filled system polarity head h payload filler (written.header system (λ large. cc)) size little multiple, alive, pad)

-- ---- files and pads

-- attributes that are written for the form of a header say this form
pub with_large_is : (large : Bool) (attributes : ℕ) → is_large attributes ≡ false → is_large (with_large large attributes) ≡ large
with_large_is true attributes short = set_large attributes short
with_large_is false attributes short = short

-- the size of a new file is less than the limit for the form of its header
size_small : (data_len : ℕ) → data_len ≤ data_limit → file_header_len (needs_large data_len) + data_len < size_limit (needs_large data_len)
size_small data_len most = grind (arith, common_steps, nat_tests)

-- the bytes of the new header of a file
pub file_head_is : (polarity : Polarity) (name : Guid) (kind : ℕ) (attributes : FileAttributes) (data_len file_sum : ℕ) (header : NewHeader)
    → is_large (attribute_bits attributes) ≡ false
    → header ≡ file_header name kind attributes data_len file_sum
    → new_header_bytes header polarity ≡ file_head_of name kind attributes data_len file_sum polarity
file_head_is polarity name kind attributes data_len file_sum header short is = grind (arith, common_steps, with_large_is)

-- the bytes that are written for a file, and for a pad, are the headers of their fields
pub file_written : (polarity : Polarity) (name : Guid) (kind : ℕ) (attributes : FileAttributes) (data_len file_sum : ℕ) (b : List ℕ)
    → length (bytes_of name) ≡ 16
    → is_large (attribute_bits attributes) ≡ false → data_len ≤ data_limit → IsBytes b
    → b ≡ file_head_of name kind attributes data_len file_sum polarity
    → IsNewHeader polarity (file_fields name kind attributes data_len file_sum (slice_index b 16)) b
file_written polarity name kind attributes data_len file_sum b long short most bytes is =
    let large : Bool = needs_large data_len in
    rw is (written_is polarity (file_fields name kind attributes data_len file_sum 0) large long
    (with_large_is large (attribute_bits attributes) short) (size_small data_len most) (rw is at bytes))

pub pad_written : (polarity : Polarity) (size : ℕ) (b : List ℕ) → size ≤ 0xffffff → IsBytes b → b ≡ pad_head_of size polarity
    → IsNewHeader polarity (pad_fields size (slice_index b 16)) b
pad_written polarity size b most bytes is =
    rw is (written_is polarity (pad_fields size 0) false (length-replicate {A = ℕ} 16 0xff) refl (omega (arith, most)) (rw is at bytes))

-- ---- no other bytes are the header of these fields

-- at least 24 bytes are a name, six more fields, and the bytes after State
parts_of : (b : List ℕ) → IsBytes b → 24 ≤ length b
    → b ≡ take 16 b
    ++ behind_name (slice_index b 16) (slice_index b 17) (slice_index b 18) (slice_index b 19) (le_at 20 3 b) (slice_index b 23) (drop 24 b)
parts_of b small least =
    let size : drop 20 b ≡ le_bytes 3 (le_at 20 3 b) ++ drop 23 b = sym (take-append-drop 3 (drop 20 b)) ∙ (ap (λ (xs : List ℕ). field 20 3 b ++ xs)
    (drop-drop 3 20 b) ∙ ap (λ (xs : List ℕ). xs ++ drop 23 b) (sym (field_is 20 3 b small (omega (arith, least))))) in
    let more : (i : ℕ) → i ≤ 23 → drop i b ≡ slice_index b i ∷ drop (i + 1) b = λ i low. drop_more b i 0 (omega (arith, least, low)) in
    rw (more 16 (omega arith), more 17 (omega arith), more 18 (omega arith), more 19 (omega arith), size, more 23 (omega arith))
    at (sym (take-append-drop 16 b))

-- the number in the Size field, and the bytes after State, follow from the size
short_is : (large : Bool) (b : List ℕ) (size : ℕ) → (large ≡ true → le_at 20 3 b ≡ 0) → size ≡ file_size_in large b
    → le_at 20 3 b ≡ short_size large size
short_is true b size none is = none refl
short_is false b size none is = sym is

long_is : (large : Bool) (b : List ℕ) (size : ℕ) → IsBytes b → length b ≡ file_header_len large → size ≡ file_size_in large b
    → drop 24 b ≡ long_size large size
long_is true b size small whole is =
    sym (take_all 8 (drop 24 b) (omega (arith, length-drop 24 b, whole))) ∙ sym (field_is 24 8 b small (omega (arith, whole)))
    ∙ ap (le_bytes 8) (sym is)
long_is false b size small whole is = drop_all 24 b (omega (arith, whole))

-- bytes that are the header of these fields are the bytes that are written for them
form_of : (polarity : Polarity) (head : FileHead) (b : List ℕ) → IsNewHeader polarity head b
    → b ≡ spelled head (is_large (attribute_bits head.attributes)) (state_byte polarity)
form_of polarity head b written =
    let is = written.header Ffs3 (λ large. refl) in
    let at : attribute_bits head.attributes ≡ slice_index b 19 = ap (λ (x : FileHead). attribute_bits x.attributes) is.fields in
    let large : Bool = is_large (slice_index b 19) in
    let size : head.size ≡ file_size_in large b = ap (λ (x : FileHead). x.size) is.fields in
    let least : 24 ≤ length b = rw is.header_length (header_least large) in
    let short : le_at 20 3 b ≡ short_size large head.size = short_is large b head.size (λ e. (is.large e).1) size in
    let long : drop 24 b ≡ long_size large head.size = long_is large b head.size written.bytes is.header_length size in
    rw (header_parts head (is_large (attribute_bits head.attributes)) (state_byte polarity), at, ← short, ← long, ← written.state, is.fields)
    (parts_of b written.bytes least)

-- the header checksum of these bytes is the complement, so they are the bytes that `header_bytes` spells
pub only_written : (polarity : Polarity) (head : FileHead) (b : List ℕ) → IsNewHeader polarity head b
    → b ≡ header_bytes head.file_sum (bytes_of head.name) head.kind (attribute_bits head.attributes) head.size
    (is_large (attribute_bits head.attributes)) (state_byte polarity)
unfolding header_bytes
only_written polarity head b written =
    let is = written.header Ffs3 (λ large. refl) in
    let large : Bool = is_large (attribute_bits head.attributes) in
    let form = form_of polarity head b written in
    let least : 24 ≤ length b = rw is.header_length (header_least _) in
    let named : length (bytes_of head.name) ≡ 16 = rw is.fields (length-take-le 16 b (omega (arith, least))) in
    let small : head.header_sum < 256 = rw is.fields (written.bytes 16) in
    let right : (bare_sum head large + head.header_sum) % 256 ≡ 0 =
    sym (header_sum_is head large (state_byte polarity) named) ∙ ap header_sum_of (sym form) ∙ is.sum in
    form ∙ ap (λ (n : ℕ). spelled (record head { header_sum = n }) large (state_byte polarity))
    (complement_only (bare_sum head large) head.header_sum small right)

-- no other bytes are the header of a file with these fields, or the header of a pad
pub only_file : (polarity : Polarity) (name : Guid) (kind : ℕ) (attributes : FileAttributes) (data_len file_sum header_sum : ℕ) (h : List ℕ)
    → is_large (attribute_bits attributes) ≡ false
    → IsNewHeader polarity (file_fields name kind attributes data_len file_sum header_sum) h
    → h ≡ file_head_of name kind attributes data_len file_sum polarity
only_file polarity name kind attributes data_len file_sum header_sum h short written =
    rw (with_large_is (needs_large data_len) (attribute_bits attributes) short) at (only_written polarity _ h written)

pub only_pad : (polarity : Polarity) (size header_sum : ℕ) (h : List ℕ) → IsNewHeader polarity (pad_fields size header_sum) h
    → h ≡ pad_head_of size polarity
only_pad polarity size header_sum h written = only_written polarity (pad_fields size header_sum) h written

-- ---- a header is a list of bytes

pub state_small : (p : Polarity) → state_byte p < 256
state_small Ones = omega arith
state_small Zeros = omega arith

-- if the fields are bytes, each element of a written header is a byte
pub bytes_header : (file_sum : ℕ) (name : List ℕ) (kind attributes size : ℕ) (large : Bool) (state : ℕ) → IsBytes name → file_sum < 256
    → kind < 256 → attributes < 256 → state < 256
    → IsBytes (header_bytes file_sum name kind attributes size large state)
unfolding header_bytes
bytes_header file_sum name kind attributes size true state n f k a s =
    search (bytes_append, bytes_cons, bytes_le_bytes, none_at, complement_small) depth 12
bytes_header file_sum name kind attributes size false state n f k a s =
    search (bytes_append, bytes_cons, bytes_le_bytes, none_at, complement_small) depth 12

pub length-header : (file_sum : ℕ) (name : List ℕ) (kind attributes size : ℕ) (large : Bool) (state : ℕ) → length name ≡ 16
    → length (header_bytes file_sum name kind attributes size large state) ≡ file_header_len large
unfolding header_bytes
length-header file_sum name kind attributes size true state n = simp length-append (omega arith)
length-header file_sum name kind attributes size false state n = simp length-append (omega arith)
