-- The checks of a file hold exactly if the bytes begin with a file. Only the bytes of the header decide its fields
-- (`front_head`). If the checks hold, the header and the data are cut from the bytes by their sizes (`file_at`). If a
-- file begins the bytes, its header is read again, and each of its checks holds (`file_reads`, `filled_read`).
use Rattle.std.proofs.Common.{◌≡◌, ◌≤◌, ◌<◌, ℕ, ◌+◌, ◌-◌, ◌++◌, ◌==◌, ◌⊎◌, ◌||◌, add-sub_of_le, leb-true, List, length, take, drop}
use Rattle.fv_base.proofs.Laws.{refl, sym, ap, ◌∙◌, subst, arith, Bool, true, false, length-append, append_assoc, not, slice_index, le-leb, eqb-true}
use Rattle.fv_base.proofs.Laws.{eq-eqb, take-append-drop, length-take-le, get_or-take, take-add, eqb-false, not-true, take-append-le, get_or-append}
use Rattle.fv_base.proofs.Laws.{AllHold, drop-append_seam, take-append_seam, le, and_join, field-append_front, field-take, common_steps}
use Rattle.fv_base.specs.declared.flash.FileSystem.{FileSystem}
use Rattle.fv_base.specs.declared.flash.Polarity.{Polarity}
use Rattle.fv_base.specs.declared.flash.FileSystem.TheVariants.{Ffs3}
use Rattle.fv_file.specs.Words.{may_be_large, has_header_sum, has_file_size, attribute_bits, is_large, is_fixed, allows_large, file_checks}
use Rattle.fv_file.specs.Words.{file_header_len_at, file_size_at, payload_at, attributes_at, file_header_len, file_size_in, file_sum_right, head_in}
use Rattle.fv_file.specs.Words.{pad_kind, IsFile, IsFilled, IsSound, StateOf, is_alive}
use Rattle.fv_file.specs.declared.head.FileHead.{FileHead}
use Rattle.fv_file.specs.declared.state.FileState.{FileState}
use Rattle.fv_file.proofs.FileVerdictLemmas.{sizes}

-- a header has at least 24 bytes
pub header_least : (large : Bool) → 24 ≤ file_header_len large
header_least false = omega arith
header_least true = omega arith

pub front_byte : (k : ℕ) (h y : List ℕ) → k < length h → slice_index (h ++ y) k ≡ slice_index h k
front_byte k h y l = get_or-append h y 0 k l

front_size : (large : Bool) (h y : List ℕ) → length h ≡ file_header_len large → file_size_in large (h ++ y) ≡ file_size_in large h
front_size false h y l = ap le (field-append_front 20 3 h y (omega arith))
front_size true h y l = ap le (field-append_front 24 8 h y (omega arith))

-- only the bytes of the header decide its fields
front_head : (st : FileState) (h y : List ℕ) → length h ≡ file_header_len_at h → head_in st (h ++ y) ≡ head_in st h
front_head st h y l =
    let n = header_least (is_large (slice_index h 19)) in
    let e16 = front_byte 16 h y (omega (arith, n, l)) in
    let e17 = front_byte 17 h y (omega (arith, n, l)) in
    let e18 = front_byte 18 h y (omega (arith, n, l)) in
    let e19 = front_byte 19 h y (omega (arith, n, l)) in
    let name : take 16 (h ++ y) ≡ take 16 h = take-append-le 16 h y (omega (arith, n, l)) in
    let size : file_size_in (is_large (slice_index h 19)) (h ++ y) ≡ file_size_in (is_large (slice_index h 19)) h = front_size _ h y l in
    rw (e19, e16, e17, e18, name, size) refl

-- ---- from the checks to the file

-- the bytes begin with a file of this state, as the checks say
pub record FileAt (system : FileSystem) (polarity : Polarity) (state : FileState) (r : List ℕ) : Type 0 where
  pub least : file_header_len_at r ≤ file_size_at r
  pub within : file_size_at r ≤ length r
  pub is_file : IsFile system polarity (head_in state r) (payload_at r) (take (file_size_at r) r)
  pub sound : is_alive state ≡ true → (slice_index r 18 == pad_kind) ≡ false → IsSound (head_in state r) (payload_at r)

-- if the checks hold, only FFS3 has a large header, and the Size field of a large header is zero
large_is : (system : FileSystem) (large : Bool) → (not large || allows_large system) ≡ true → large ≡ true → system ≡ Ffs3
large_is system large h k = grind (arith, common_steps) steps 150000

zero_size : (large : Bool) (n : ℕ) → (not large || (n == 0)) ≡ true → large ≡ true → n ≡ 0
zero_size true n h k = eqb-true n 0 h
zero_size false n h k = cc

-- if the file is valid by its state and not a pad, the test of its data holds
looked_at : (alive pad t : Bool) → (not alive || pad || t) ≡ true → alive ≡ true → pad ≡ false → t ≡ true
looked_at alive pad t h a p = grind (arith, common_steps) steps 150000

-- if the checks hold, the bytes begin with a file
pub file_at : (s : FileSystem) (p : Polarity) (st : FileState) (at : ℕ) (r : List ℕ) → 24 ≤ length r → StateOf (slice_index r 23) p st
    → AllHold (file_checks s (is_alive st) at r) → FileAt s p st r
file_at s p st at r long state (allowed, (header_within, (header_zero, (size_fits, (may_move, (data_zero, none)))))) =
    let n : ℕ = file_header_len_at r in
    let h : List ℕ = take n r in
    let low : 24 ≤ n = header_least (is_large (attributes_at r)) in
    let len : length h ≡ n = length-take-le n r (leb-true _ _ header_within) in
    let e19 : slice_index h 19 ≡ slice_index r 19 = get_or-take n r 19 0 (omega (arith, low)) in
    let e23 : slice_index h 23 ≡ slice_index r 23 = get_or-take n r 23 0 (omega (arith, low)) in
    let header_len : length h ≡ file_header_len_at h = rw e19 len in
    let size = sizes _ _ _ _ size_fits in
    record {
      least = size.0;
      within = size.1;
      is_file = record {
        header = h;
        text = rw (add-sub_of_le size.0) at (take-add n (file_size_at r - n) r);
        is_header = record {
          header_length = header_len;
          fields = rw take-append-drop at (front_head st h (drop n r) header_len);
          state = rw e23 state;
          large = rw (e19, field-take 20 3 n r (omega (arith, low))) (λ is. (large_is s _ allowed is, zero_size _ _ size.2 is));
          sum = eqb-true _ _ header_zero;
        };
        size = sym (length-take-le (file_size_at r) r size.1);
      };
      sound = λ alive pad. record {
        kind = eqb-false (slice_index r 18) pad_kind pad;
        moves = not-true _ (looked_at _ _ _ may_move alive pad);
        file_sum = looked_at _ _ _ data_zero alive pad;
      };
    }

-- ---- from the file to the checks

-- if the state says that the file is valid, the file is a pad, or is sound (`IsSound`)
abbrev pub HasContent : FileHead → List ℕ → Type 0
HasContent head payload = is_alive head.state ≡ true → (head.kind ≡ pad_kind) ⊎ IsSound head payload

-- bytes that begin with a file are read as this file
pub record ReadsFile (system : FileSystem) (polarity : Polarity) (head : FileHead) (payload r : List ℕ) : Type 0 where
  pub long : 24 ≤ length r
  pub state : StateOf (slice_index r 23) polarity head.state
  pub fields : head_in head.state r ≡ head
  pub payload_is : payload_at r ≡ payload
  pub checks : (at : ℕ) → HasContent head payload → AllHold (file_checks system (is_alive head.state) at r)

-- conversely, a large header in FFS3 whose Size field is zero passes the tests
large_may : (s : FileSystem) (large : Bool) → (large ≡ true → s ≡ Ffs3) → (not large || allows_large s) ≡ true
large_may s false h = refl
large_may s true h = rw (h refl) refl

zero_if : (large : Bool) (n : ℕ) → (large ≡ true → n ≡ 0) → (not large || (n == 0)) ≡ true
zero_if false n h = refl
zero_if true n h = eq-eqb n 0 (h refl)

-- if the file is not valid by its state, is a pad, or is sound, the checks of the data hold
data_checks : (head : FileHead) (payload : List ℕ) → HasContent head payload
    → ((not (is_alive head.state) || (head.kind == pad_kind) || not (is_fixed (attribute_bits head.attributes))) ≡ true)
    × ((not (is_alive head.state) || (head.kind == pad_kind) || file_sum_right (attribute_bits head.attributes) head.file_sum payload) ≡ true)
data_checks head payload content = grind (arith, common_steps, eq-eqb)

-- if a file begins the bytes, this file is read
pub file_reads : (s : FileSystem) (p : Polarity) (head : FileHead) (payload file w : List ℕ) → IsFile s p head payload file
    → ReadsFile s p head payload (file ++ w)
file_reads s p head payload file w is = rw (is.text, append_assoc) (
    let h : List ℕ = is.header in
    let y : List ℕ = payload ++ w in
    let r : List ℕ = h ++ y in
    let low : 24 ≤ length h = rw is.is_header.header_length (header_least _) in
    let fields : head_in head.state r ≡ head = front_head head.state h y is.is_header.header_length ∙ sym is.is_header.fields in
    let e19 : slice_index r 19 ≡ slice_index h 19 = front_byte 19 h y (omega (arith, low)) in
    let len : file_header_len_at r ≡ length h = rw e19 (sym is.is_header.header_length) in
    let size : file_size_at r ≡ length h + length payload =
    ap (λ (f : FileHead). f.size) fields ∙ is.size ∙ ap length is.text ∙ length-append h payload in
    let part : file_size_at r - file_header_len_at r ≡ length payload = omega (arith, size, len) in
    let payload_is : payload_at r ≡ payload = rw (part, len, drop-append_seam, take-append_seam) in
    let long : length r ≡ length h + (length payload + length w) = simp length-append in
    let allowed : may_be_large s r ≡ true = rw e19 (large_may s _ (λ l. (is.is_header.large l).0)) in
    let sum : has_header_sum r ≡ true = rw (len, take-append_seam, is.is_header.sum) in
    let sizes : has_file_size r ≡ true =
    and_join _ _ (le-leb (file_header_len_at r) (file_size_at r) (omega (arith, len, size)))
    (and_join _ _ (le-leb (file_size_at r) (length r) (omega (arith, size, long)))
    (rw (e19, field-append_front 20 3 h y (omega (arith, low))) (zero_if _ _ (λ l. (is.is_header.large l).1)))) in
    record {
      long = omega (arith, low, long);
      state = rw (front_byte 23 h y (omega (arith, low))) is.is_header.state;
      fields = fields;
      payload_is = payload_is;
      checks = λ at content.
          let there : HasContent (head_in head.state r) (payload_at r) = subst (λ g. HasContent g (payload_at r)) (sym fields) (rw payload_is content) in
          let checked = data_checks (head_in head.state r) (payload_at r) there in
          (allowed, (le-leb _ _ (omega (arith, len, long)), (sum, (sizes, (checked.0, (checked.1, tt))))));
    }
    )

-- a file with its filler is read too
pub filled_read : (s : FileSystem) (p : Polarity) (head : FileHead) (payload u w : List ℕ) → IsFilled s p head payload u
    → ReadsFile s p head payload (u ++ w)
filled_read s p head payload u w filled =
    rw (filled.text, append_assoc) (file_reads s p head payload filled.file (filled.filler ++ w) filled.is_file)
