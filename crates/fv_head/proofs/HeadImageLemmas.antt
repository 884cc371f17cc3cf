-- A header is the bytes that are written for its fields. The bytes that `canonical_head` spells satisfy
-- `IsCanonicalHead`, and no other bytes do. The steps:
-- 1. The bytes that are written for the pairs of some bytes are these bytes (`pairs_bytes-pairs_of`).
-- 2. A header is the bytes that are written for its fields, its checksum and its ExtHeaderOffset (`front_is`,
--    `behind_is`, `spelled_is`).
-- 3. With another ExtHeaderOffset, and a checksum that makes the sum 0, the bytes are a header with the same fields
--    (`spelled_head`). One checksum makes the sum 0 (`spelled_sum`, `checksum_right`, `checksum_only`).
-- 4. So the bytes of `canonical_head` satisfy `IsCanonicalHead` (`canonical_is`), and no other bytes do
--    (`canonical_only`). With the extended header in a pad file after them, they begin a volume with these fields
--    (`canonical_front`).
-- 5. The checksum is computed from a sum of words (`weight-words`, `words_added`, `checksum_from`).
use Rattle.std.proofs.Common.{◌≡◌, ◌≤◌, ◌<◌, ℕ, ◌+◌, ◌-◌, ◌*◌, ◌%◌, [], ◌∷◌, ◌++◌, sum, List, length, take, drop, refl, sym}
use Rattle.fv_base.proofs.Laws.{ap, ◌∙◌, subst, arith, false, length-append, length-drop, append_assoc, drop-drop, slice_index, Bool, Option, None}
use Rattle.fv_base.proofs.Laws.{Some, take-append-drop, take_at, drop_at, get_or-drop, length-take-le, take-add, common_steps, drop_more, words_of}
use Rattle.fv_base.proofs.Laws.{header_limit, IsBytes, le, le_bytes, field, le_at, up_to_8, bytes_append, bytes_drop, bytes_le_bytes, bytes_take}
use Rattle.fv_base.proofs.Laws.{field-append_front, field-take, field_is, le-le_bytes, le_bytes-le, sum-words_of-append, two_bytes, sum_by-cons}
use Rattle.fv_base.specs.Words.{sum16_of}
use Rattle.fv_head.specs.Words.{Extension, HasExt, HeadFields, IsHead, BeginsVolume, canonical_offset, IsReadHead, IsCanonicalHead, extent_of, IfRead}
use Rattle.fv_head.specs.Words.{CanonicalRest, header_len_of, signature_bytes, system_guid, pairs_of, pairs_bytes, ext_spelled, canonical_end}
use Rattle.fv_head.specs.Words.{first_edge, head_spelled, checksum_of, canonical_head}
use Rattle.fv_head.specs.inner.WordSums.{is_high_after, word_weight}
use Rattle.fv_head.proofs.BlockMapLemmas.{by_eights}
use Rattle.fv_head.proofs.ExtImageLemmas.{ext_again}

-- ---- pairs

length-pairs_of : (xs : List ℕ) → length xs % 8 ≡ 0 → 8 * length (pairs_of xs) ≡ length xs
length-pairs_of = by_eights (λ xs. 8 * length (pairs_of xs) ≡ length xs) refl (λ a b c d e f g i xs rest. omega (arith, rest))

four_bytes : (a b c d : ℕ) → IsBytes (a ∷ b ∷ c ∷ d ∷ []) → le_bytes 4 (le (a ∷ b ∷ c ∷ d ∷ [])) ≡ a ∷ b ∷ c ∷ d ∷ []
four_bytes a b c d h = le_bytes-le (a ∷ b ∷ c ∷ d ∷ []) h

-- the bytes that are written for the pairs of some bytes are these bytes
pairs_bytes-pairs_of : (xs : List ℕ) → IsBytes xs → length xs % 8 ≡ 0 → pairs_bytes (pairs_of xs) ≡ xs
pairs_bytes-pairs_of xs small h = by_eights (λ ys. IsBytes ys → pairs_bytes (pairs_of ys) ≡ ys) (λ none. refl) step xs h small where
  step : (a b c d e f g i : ℕ) (xs : List ℕ) → (IsBytes xs → pairs_bytes (pairs_of xs) ≡ xs)
      → IsBytes (a ∷ b ∷ c ∷ d ∷ e ∷ f ∷ g ∷ i ∷ xs)
      → pairs_bytes (pairs_of (a ∷ b ∷ c ∷ d ∷ e ∷ f ∷ g ∷ i ∷ xs)) ≡ a ∷ b ∷ c ∷ d ∷ e ∷ f ∷ g ∷ i ∷ xs
  step a b c d e f g i xs more small =
      let whole : List ℕ = a ∷ b ∷ c ∷ d ∷ e ∷ f ∷ g ∷ i ∷ xs in
      let first = four_bytes a b c d (bytes_take 4 whole small) in
      let second = four_bytes e f g i (bytes_take 4 (drop 4 whole) (bytes_drop 4 whole small)) in
      let rest = more (bytes_drop 8 whole small) in
      ap (λ (ys : List ℕ). (ys ++ le_bytes 4 (le (e ∷ f ∷ g ∷ i ∷ []))) ++ pairs_bytes (pairs_of xs)) first
      ∙ ap (λ (ys : List ℕ). ((a ∷ b ∷ c ∷ d ∷ []) ++ ys) ++ pairs_bytes (pairs_of xs)) second
      ∙ ap (λ (ys : List ℕ). a ∷ b ∷ c ∷ d ∷ e ∷ f ∷ g ∷ i ∷ ys) rest

pairs_bytes-append : (ps qs : List (ℕ × ℕ)) → pairs_bytes (ps ++ qs) ≡ pairs_bytes ps ++ pairs_bytes qs
pairs_bytes-append [] qs = refl
pairs_bytes-append (p ∷ ps) qs =
    ap (λ (ys : List ℕ). (le_bytes 4 p.0 ++ le_bytes 4 p.1) ++ ys) (pairs_bytes-append ps qs)
    ∙ sym (append_assoc (le_bytes 4 p.0 ++ le_bytes 4 p.1) (pairs_bytes ps) (pairs_bytes qs))

-- ---- a header in parts

-- the HeaderLength that follows from the fields of a header is its length
pub header_len_is : (h : HeadFields) (b : List ℕ) → IsHead h b → header_len_of h ≡ length b
header_len_is h b head =
    let behind : length (drop 56 b) ≡ length b - 56 = length-drop 56 b in
    let count : 8 * length (pairs_of (drop 56 b)) ≡ length (drop 56 b) =
    length-pairs_of (drop 56 b) (omega (arith, behind, head.multiple, head.least)) in
    let more : length (pairs_of (drop 56 b)) ≡ length h.blocks + 1 = ap length head.block_map ∙ length-append h.blocks ((0, 0) ∷ []) in
    omega (arith, behind, count, more, head.least)

-- the bytes of a header before Checksum
abbrev front_of : HeadFields → List ℕ
front_of h =
    h.zero_vector ++ system_guid h.file_system ++ le_bytes 8 h.length ++ signature_bytes ++ le_bytes 4 h.attributes ++ le_bytes 2 (header_len_of h)

-- the bytes of a header after ExtHeaderOffset
abbrev behind_of : HeadFields → List ℕ
behind_of h = h.reserved ∷ 2 ∷ (pairs_bytes h.blocks ++ le_bytes 8 0)

spelled_parts : (h : HeadFields) (checksum offset : ℕ)
    → head_spelled h checksum offset ≡ front_of h ++ (le_bytes 2 checksum ++ (le_bytes 2 offset ++ behind_of h))
unfolding head_spelled
spelled_parts h checksum offset = simp append_assoc

-- the bytes before Checksum are the fields before it
front_is : (h : HeadFields) (b : List ℕ) → IsHead h b → take 50 b ≡ front_of h
front_is h b head =
    let number : (at n value : ℕ) → at + n ≤ 50 → le_at at n b ≡ value → field at n b ≡ le_bytes n value =
    λ at n value within is. sym (field_is at n b head.bytes (omega (arith, within, head.least))) ∙ ap (le_bytes n) is in
    grown 48 2 (grown 44 4 (grown 40 4 (grown 32 8 (grown 16 16 head.zero_vector head.file_system)
    (number 32 8 h.length (omega arith) head.volume_length)) head.signature)
    (number 44 4 h.attributes (omega arith) head.attributes))
    (number 48 2 (header_len_of h) (omega arith) (head.header_length ∙ sym (header_len_is h b head)))
  where
    grown : (n k : ℕ) {front part : List ℕ} → take n b ≡ front → field n k b ≡ part → take (n + k) b ≡ front ++ part
    grown n k p q = take-add n k b ∙ rw (p, q) refl

-- the bytes after ExtHeaderOffset are Reserved, Revision 2, the blocks and the pair of zeros
behind_is : (h : HeadFields) (b : List ℕ) → IsHead h b → drop 54 b ≡ behind_of h
behind_is h b head =
    let behind : length (drop 56 b) ≡ length b - 56 = length-drop 56 b in
    let map : pairs_bytes (pairs_of (drop 56 b)) ≡ drop 56 b =
    pairs_bytes-pairs_of (drop 56 b) (bytes_drop 56 b head.bytes) (omega (arith, behind, head.multiple, head.least)) in
    let pairs : drop 56 b ≡ pairs_bytes h.blocks ++ le_bytes 8 0 =
    sym map ∙ ap pairs_bytes head.block_map ∙ pairs_bytes-append h.blocks ((0, 0) ∷ []) in
    drop_more b 54 0 (omega (arith, head.least))
    ∙ ap (λ (xs : List ℕ). slice_index b 54 ∷ xs) (drop_more b 55 0 (omega (arith, head.least)))
    ∙ rw (head.reserved, head.revision, pairs) refl

-- a header is the bytes that are written for its fields, its Checksum and its ExtHeaderOffset
spelled_is : (h : HeadFields) (b : List ℕ) → IsHead h b → b ≡ head_spelled h (le_at 50 2 b) (le_at 52 2 b)
spelled_is h b head =
    rw (spelled_parts h (le_at 50 2 b) (le_at 52 2 b), ← front_is h b head, ← behind_is h b head)
    (rw (← number 52 (omega arith), ← number 50 (omega arith), take-append-drop))
  where
    number : (at : ℕ) → at ≤ 52 → drop at b ≡ le_bytes 2 (le_at at 2 b) ++ drop (at + 2) b
    number at low =
        sym (take-append-drop 2 (drop at b)) ∙ ap (λ (xs : List ℕ). field at 2 b ++ xs) (drop-drop 2 at b)
        ∙ ap (λ (xs : List ℕ). xs ++ drop (at + 2) b) (sym (field_is at 2 b head.bytes (omega (arith, head.least, low))))

-- ---- another Checksum and another ExtHeaderOffset

-- the bytes that are written for the fields of a header, with any Checksum and ExtHeaderOffset
module _ (h : HeadFields) (b : List ℕ) (head : IsHead h b) (checksum offset : ℕ) where
  abbrev bytes : List ℕ
  bytes = head_spelled h checksum offset

  abbrev rest : List ℕ
  rest = le_bytes 2 checksum ++ (le_bytes 2 offset ++ behind_of h)

  whole : bytes ≡ front_of h ++ rest
  whole = spelled_parts h checksum offset

  fifty : length (front_of h) ≡ 50
  fifty = ap length (sym (front_is h b head)) ∙ length-take-le 50 b (omega (arith, head.least))

  front_same : take 50 bytes ≡ take 50 b
  front_same = ap (take 50) whole ∙ take_at (front_of h) rest 50 fifty ∙ sym (front_is h b head)

  from_50 : drop 50 bytes ≡ rest
  from_50 = ap (drop 50) whole ∙ drop_at (front_of h) rest 50 fifty

  behind_same : drop 54 bytes ≡ drop 54 b
  behind_same = sym (drop-drop 4 50 bytes) ∙ ap (drop 4) from_50 ∙ sym (behind_is h b head)

  spelled_length : length bytes ≡ length b
  spelled_length =
      omega (arith, ap length whole, length-append (front_of h) rest, fifty, ap length (behind_is h b head), length-drop 54 b, head.least)

  spelled_offset : offset < 65536 → le_at 52 2 bytes ≡ offset
  spelled_offset small = ap (λ (xs : List ℕ). le (take 2 xs)) (sym (drop-drop 2 50 bytes) ∙ ap (drop 2) from_50) ∙ le-le_bytes 2 offset small

  spelled_bytes : IsBytes bytes
  spelled_bytes = subst IsBytes (sym whole) (bytes_append (front_of h) rest (subst IsBytes (front_is h b head) (bytes_take 50 b head.bytes))
      (bytes_append (le_bytes 2 checksum) (le_bytes 2 offset ++ behind_of h) (bytes_le_bytes 2 checksum)
      (bytes_append (le_bytes 2 offset) (behind_of h) (bytes_le_bytes 2 offset) (subst IsBytes (behind_is h b head) (bytes_drop 54 b head.bytes)))))

  -- if the words of these bytes sum to 0, the bytes are a header with the same fields
  spelled_head : sum16_of bytes ≡ 0 → IsHead h bytes
  spelled_head right = record {
    bytes = spelled_bytes;
    zero_vector = at 0 16 (omega arith) ∙ head.zero_vector;
    file_system = at 16 16 (omega arith) ∙ head.file_system;
    volume_length = ap le (at 32 8 (omega arith)) ∙ head.volume_length;
    signature = at 40 4 (omega arith) ∙ head.signature;
    attributes = ap le (at 44 4 (omega arith)) ∙ head.attributes;
    header_length = ap le (at 48 2 (omega arith)) ∙ head.header_length ∙ sym spelled_length;
    reserved = byte 0 ∙ head.reserved;
    revision = byte 1 ∙ head.revision;
    block_map = ap pairs_of (sym (drop-drop 2 54 bytes) ∙ ap (drop 2) behind_same ∙ drop-drop 2 54 b) ∙ head.block_map;
    no_pair_of_zeros = head.no_pair_of_zeros;
    sum = right;
    multiple = rw spelled_length head.multiple;
    least = rw spelled_length head.least;
    most = rw spelled_length head.most;
    makes_up = head.makes_up;
    volume_multiple = head.volume_multiple;
    volume_least = rw spelled_length head.volume_least;
    volume_most = head.volume_most;
  } where
    at : (i n : ℕ) → i + n ≤ 50 → field i n bytes ≡ field i n b
    at i n within = sym (field-take i n 50 bytes within) ∙ ap (field i n) front_same ∙ field-take i n 50 b within

    byte : (i : ℕ) → slice_index bytes (54 + i) ≡ slice_index b (54 + i)
    byte i = sym (get_or-drop 54 bytes i 0) ∙ ap (λ (xs : List ℕ). slice_index xs i) behind_same ∙ get_or-drop 54 b i 0

  -- the sum of the words of these bytes is the sum with Checksum 0, plus the checksum
  spelled_sum : checksum < 65536 → sum (words_of bytes) ≡ sum (words_of (head_spelled h 0 offset)) + checksum
  spelled_sum small = grind (arith, common_steps, sum-words_of-append, fifty, sum_by-cons, whole, spelled_parts, le-le_bytes)

-- ---- the canonical head

-- one checksum makes a sum 0 modulo 65536, and no other checksum does
checksum_right : (total : ℕ) → (total + (65536 - total % 65536) % 65536) % 65536 ≡ 0
checksum_right total = omega arith

checksum_only : (total checksum : ℕ) → checksum < 65536 → (total + checksum) % 65536 ≡ 0 → checksum ≡ (65536 - total % 65536) % 65536
checksum_only total checksum small none = omega arith

checksum_small : (total : ℕ) → (65536 - total) % 65536 < 65536
checksum_small total = omega arith

canonical_offset_small : (h : HeadFields) (b : List ℕ) (x : Option Extension) → IsHead h b → canonical_offset h x < 65536
canonical_offset_small h b x head = grind (arith, common_steps, header_len_is)

-- the bytes of `canonical_head` are a header with these fields, and ExtHeaderOffset is right
pub canonical_is : (h : HeadFields) → IsReadHead h → IsCanonicalHead h (canonical_head h)
unfolding canonical_head
canonical_is h read = grind (arith, common_steps, spelled_sum, checksum_small, spelled_head, checksum_right, spelled_offset, canonical_offset_small)

-- no other bytes satisfy `IsCanonicalHead`
pub canonical_only : (h : HeadFields) (b : List ℕ) → IsCanonicalHead h b → b ≡ canonical_head h
unfolding canonical_head
canonical_only h b canonical =
    let head = canonical.head in
    let checksum : ℕ = le_at 50 2 b in
    let offset : ℕ = le_at 52 2 b in
    let total : ℕ = sum (words_of (head_spelled h 0 offset)) in
    let own : b ≡ head_spelled h checksum offset = spelled_is h b head in
    let small : checksum < 65536 = two_bytes 50 b head.bytes in
    let sums : sum (words_of b) ≡ total + checksum = ap (λ (xs : List ℕ). sum (words_of xs)) own ∙ spelled_sum h b head checksum offset small in
    let none_left : (total + checksum) % 65536 ≡ 0 = ap (λ (n : ℕ). n % 65536) (sym sums) ∙ head.sum in
    own ∙ ap (λ (n : ℕ). head_spelled h n offset) (checksum_only total checksum small none_left)
    ∙ ap (λ (n : ℕ). head_spelled h (checksum_of h n) n) canonical.offset

-- the canonical head has the length that follows from its fields
pub length-canonical : (h : HeadFields) → IsReadHead h → length (canonical_head h) ≡ header_len_of h
length-canonical h read = sym (header_len_is h (canonical_head h) (canonical_is h read).head)

-- if ExtHeaderOffset is the offset in the canonical image, the volume's extended header is the one in the pad file
-- after the canonical head
canonical_ext : (h : HeadFields) (rest : List ℕ) (x : Option Extension) → IsReadHead h → h.ext ≡ x → IfRead x → CanonicalRest x rest
    → canonical_end h x ≤ h.length
    → le_at 52 2 (canonical_head h ++ rest) ≡ canonical_offset h x → HasExt x (extent_of h (first_edge h x)) (canonical_head h ++ rest)
canonical_ext h rest None read is known there fits offset = (offset, refl)
canonical_ext h rest (Some x) read is known (pad, used, behind, text, long) fits offset =
    let b : List ℕ = canonical_head h in
    let own : length b ≡ header_len_of h = length-canonical h read in
    let part : List ℕ = ext_spelled x used in
    let again = ext_again x used known in
    let before : length (b ++ pad) ≡ header_len_of h + 24 = omega (arith, length-append b pad, own, long) in
    let joined : b ++ rest ≡ (b ++ pad) ++ (part ++ behind) =
    ap (λ (xs : List ℕ). b ++ xs) text ∙ sym (append_assoc b pad (part ++ behind)) in
    let sum : length (b ++ pad) + length part ≡ canonical_end h (Some x) = omega (arith, before, again.1) in
    (b ++ pad, part, behind, joined, before ∙ sym offset, omega (arith, before), omega (arith, sum, fits), again.0, ap up_to_8 (sym sum))

-- the canonical head, with its extended header in a pad file after it, begins a volume with its fields
pub canonical_front : (h : HeadFields) (rest : List ℕ) → IsReadHead h → IfRead h.ext → CanonicalRest h.ext rest
    → canonical_end h h.ext ≤ h.length → h.length ≤ length (canonical_head h ++ rest)
    → BeginsVolume h (extent_of h (first_edge h h.ext)) (canonical_head h ++ rest)
canonical_front h rest read known there fits long =
    let b : List ℕ = canonical_head h in
    let canonical = canonical_is h read in
    let own : length b ≡ header_len_of h = length-canonical h read in
    let head : take (header_len_of h) (b ++ rest) ≡ b = take_at b rest (header_len_of h) own in
    let offset : le_at 52 2 (b ++ rest) ≡ le_at 52 2 b = ap le (field-append_front 52 2 b rest (omega (arith, canonical.head.least))) in
    record {
      head = subst (IsHead h) (sym head) canonical.head;
      long_enough = omega (arith, own, length-append b rest);
      is_within = long;
      ext = canonical_ext h rest h.ext read refl known there fits (offset ∙ canonical.offset);
      length_is = refl;
      file_system = refl;
      polarity = refl;
    }

-- ---- sums of words in parts

-- the weight of whole words is the sum of these words
weight-words : (xs : List ℕ) → length xs % 2 ≡ 0 → word_weight false xs ≡ sum (words_of xs)
weight-words [] h = refl
weight-words (x ∷ []) h = absurd (omega arith)
weight-words (x ∷ y ∷ xs) h =
    let rest = weight-words xs (omega arith) in
    let first = sum_by-cons (λ (n : ℕ). n) (le (x ∷ y ∷ [])) (words_of xs) in
    omega (arith, rest, first)

-- after whole words comes the low byte of a word
high_even : (xs : List ℕ) → length xs % 2 ≡ 0 → is_high_after false xs ≡ false
high_even [] h = refl
high_even (x ∷ []) h = absurd (omega arith)
high_even (x ∷ y ∷ xs) h = high_even xs (omega arith)

-- whole words add their sum
pub words_added : (high : Bool) (xs : List ℕ) (t s : ℕ) → high ≡ false → length xs % 2 ≡ 0 → s ≡ sum16_of xs
    → (high ≡ is_high_after high xs) × ((t + s) % 65536 % 65536 ≡ (t + word_weight high xs) % 65536)
words_added high xs t s low even is = rw (low, high_even xs even, weight-words xs even, is) (refl, omega arith)

-- a header has an even number of bytes
spelled_even : (h : HeadFields) (checksum offset : ℕ) → IsReadHead h → length (head_spelled h checksum offset) % 2 ≡ 0
spelled_even h checksum offset (b, head) = omega (arith, spelled_length h b head checksum offset, head.multiple)

-- a header has at most 2112 bytes
pub header_len_most : (h : HeadFields) → IsReadHead h → header_len_of h ≤ header_limit
header_len_most h (b, head) = omega (arith, header_len_is h b head, head.most)

-- the checksum of a header is 65536 minus the sum of its words with Checksum 0, modulo 65536
pub checksum_from : (h : HeadFields) (offset total : ℕ) → IsReadHead h → total < 65536
    → total % 65536 ≡ (0 + word_weight false (head_spelled h 0 offset)) % 65536
    → (65536 - total) % 65536 ≡ checksum_of h offset
checksum_from h offset total read small sums = grind (arith, common_steps, weight-words, spelled_even)
