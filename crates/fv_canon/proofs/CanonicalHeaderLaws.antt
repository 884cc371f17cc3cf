-- The header of a canonical image, and another volume header a few bytes after its start. The steps:
-- 1. Two headers with the same fields have the same bytes before Checksum (`same_front`). So a volume and its canonical
--    image have the same first 50 bytes (`front_kept`).
-- 2. The checks of a header read no byte after ExtHeaderSize (`same_checks`). So bytes that agree with a volume up to
--    there begin with a volume (`begins_again`).
-- 3. In a canonical image, ExtHeaderSize is a part of the pad after the header, whose name is sixteen bytes 0xFF
--    (`front_shown`).
-- 4. The GUID of a file system lies neither in a header, except in its own place (`not_in_header`), nor in the name of
--    that pad (`not_in_pad`). So no other header begins shortly after the start of a canonical image (`no_header`).
use Rattle.std.proofs.Common.{◌≡◌, ◌<◌, ◌≤◌, ◌+◌, ◌-◌, ◌*◌, ◌/◌, ◌%◌, ℕ, zero, suc, [], ◌∷◌, List, length, take, drop, get_or, refl, sym, ap, ◌∙◌}
use Rattle.std.proofs.Common.{subst, arith, inl, inr, Option, None, Some, slice_index, length-append, length-drop, drop-drop}
use Rattle.fv_base.proofs.Laws.{Check, IsFirstFault, IsBytes, cases_lt, field, field-take, field_is, get_or-drop}
use Rattle.fv_base.proofs.Laws.{get_or-take, le, le_at, le_bytes, length-take-le, sum_by-cons, sum_by_push, take-add, take-take_le, volume_limit}
use Rattle.std.proofs.lemmas.List.{get_or-replicate}
use Rattle.fv_base.specs.declared.fault.Fault.{Fault}
use Rattle.fv_base.specs.declared.flash.FileSystem.{FileSystem}
use Rattle.fv_base.specs.declared.flash.FileSystem.TheVariants.{Ffs2, Ffs3}
use Rattle.fv_base.specs.declared.flash.Polarity.{Polarity}
use Rattle.fv_file.specs.Words.{header_bytes, pad_head_of, pad_name}
use Rattle.fv_head.specs.Words.{BeginsVolume, Extension, HeadFields, IsHead, IsReadHead, bytes_in, canonical_head, canonical_offset, ext_len}
use Rattle.fv_head.specs.Words.{ext_offset_at, ext_size_at, ext_spelled, file_system_at, has_block_map, has_ext, has_signature, has_sum, head_checks}
use Rattle.fv_head.specs.Words.{header_len_at, header_len_of, pairs_of, polarity_of, signature_bytes, system_guid, volume_len_at}
use Rattle.fv_head.specs.declared.extent.Extent.{Extent}
use Rattle.fv_head.proofs.Laws.{canonical_is, front_decided, front_extent, front_lies, front_never, header_len_is}
use Rattle.fv_tree.specs.Words.{Accepted, Meaning, head_of}
use Rattle.fv_canon.specs.Words.{ContainsSpan, ShowsPlaced, StoredFile, ext_pad, placed_in_volume}
use Rattle.fv_canon.proofs.CellLaws.{length-pad_head}

-- ---- 1. the bytes before Checksum

-- two headers with the same fields have the same first 50 bytes
same_front : (h : HeadFields) (b c : List ℕ) → IsHead h b → IsHead h c → take 50 b ≡ take 50 c
same_front h b c one two =
    let long : length b ≡ length c = sym (header_len_is h b one) ∙ header_len_is h c two in
    grown 48 2 (grown 44 4 (grown 40 4 (grown 32 8
    (grown 16 16 (one.zero_vector ∙ sym two.zero_vector) (one.file_system ∙ sym two.file_system))
    (number 32 8 (omega arith) (one.volume_length ∙ sym two.volume_length))) (one.signature ∙ sym two.signature))
    (number 44 4 (omega arith) (one.attributes ∙ sym two.attributes)))
    (number 48 2 (omega arith) (one.header_length ∙ long ∙ sym two.header_length))
  where
    grown : (n k : ℕ) → take n b ≡ take n c → field n k b ≡ field n k c → take (n + k) b ≡ take (n + k) c
    grown n k p q = take-add n k b ∙ rw (p, q) (sym (take-add n k c))

    number : (at n : ℕ) → at + n ≤ 50 → le_at at n b ≡ le_at at n c → field at n b ≡ field at n c
    number at n within is =
        sym (field_is at n b one.bytes (omega (arith, within, one.least))) ∙ ap (le_bytes n) is
        ∙ field_is at n c two.bytes (omega (arith, within, two.least))

-- two volumes with the same meaning have the same first 50 bytes
pub front_kept : (m : Meaning) (b c : List ℕ) → Accepted b m → Accepted c m → take 50 b ≡ take 50 c
front_kept m b c k l =
    let x = k.1.begins in
    let y = l.1.begins in
    let low = front_lies b (head_of m) k.1.extent x in
    let low' = front_lies c (head_of m) l.1.extent y in
    sym (take-take_le 50 k.1.extent.header_len b (omega (arith, low.least)))
    ∙ same_front (head_of m) (take k.1.extent.header_len b) (take l.1.extent.header_len c) x.head y.head
    ∙ take-take_le 50 l.1.extent.header_len c (omega (arith, low'.least))

-- ---- 2. the bytes that the checks of a header read

-- bytes that agree up to the end of the header and of ExtHeaderSize have the same checks
same_checks : (c d : List ℕ) (n reach : ℕ) → length c ≡ length d → take reach c ≡ take reach d → header_len_at d ≡ n → 64 ≤ n → n ≤ reach
    → ext_offset_at d + 20 ≤ reach → head_checks c ≡ head_checks d
same_checks c d n reach long same is least within ext =
    let at : (i k : ℕ) → i + k ≤ reach → field i k c ≡ field i k d = λ i k inside.
    sym (field-take i k reach c inside) ∙ ap (field i k) same ∙ field-take i k reach d inside in
    let byte : slice_index c 55 ≡ slice_index d 55 =
    sym (get_or-take reach c 55 0 (omega (arith, least, within))) ∙ ap (λ (xs : List ℕ). slice_index xs 55) same
    ∙ get_or-take reach d 55 0 (omega (arith, least, within)) in
    let guid : file_system_at c ≡ file_system_at d = rw (at 16 16 (omega (arith, least, within))) refl in
    let signed : has_signature c ≡ has_signature d = rw (at 40 4 (omega (arith, least, within))) refl in
    let header : header_len_at c ≡ header_len_at d = ap le (at 48 2 (omega (arith, least, within))) in
    let volume : volume_len_at c ≡ volume_len_at d = ap le (at 32 8 (omega (arith, least, within))) in
    let sum : has_sum n c ≡ has_sum n d = rw (at 0 n (omega (arith, within))) refl in
    let offset : ext_offset_at c ≡ ext_offset_at d = ap le (at 52 2 (omega (arith, least, within))) in
    let map : has_block_map n c ≡ has_block_map n d =
    rw (at 56 (n - 64) (omega (arith, least, within)), volume, at (n - 8) 4 (omega (arith, least, within)), at (n - 4) 4 (omega (arith, least, within))) refl in
    let size : le_at (ext_offset_at d + 16) 4 c ≡ ext_size_at d = ap le (at (ext_offset_at d + 16) 4 (omega (arith, ext))) in
    let ext_same : has_ext n (volume_len_at d) c ≡ has_ext n (volume_len_at d) d = rw (offset, size) refl in
    cc

-- bytes that agree with a volume up to the end of its header and of ExtHeaderSize begin with a volume
pub begins_again : (c d : List ℕ) (h : HeadFields) (e : Extent) (reach : ℕ) → IsBytes c → BeginsVolume h e d → length c ≡ length d
    → take reach c ≡ take reach d → e.header_len ≤ reach → ext_offset_at d + 20 ≤ reach → (x : Extent) × (k : HeadFields) × BeginsVolume k x c
begins_again c d h e reach small front long same within ext =
    let at : header_len_at d ≡ e.header_len = ap (λ (x : Extent). x.header_len) (front_extent d h e front).1 in
    let checks = same_checks c d e.header_len reach long same at (front_lies d h e front).least within ext in
    elim (front_decided c small) [
      | inl found ↦ found
      | inr (f, first) ↦ absurd (front_never d h e f front (subst (λ (cs : List (Check Fault)). IsFirstFault cs f) checks first))
    ]

-- ---- 3. the start of a canonical image

-- the bytes begin with the header h of a canonical image: ExtHeaderOffset has its canonical value and, if there is an
-- extended header, the name of a pad follows the header
pub record CanonicalFront (h : HeadFields) (b : List ℕ) : Type 0 where
  pub offset : ext_offset_at b ≡ canonical_offset h h.ext
  pub pad : (x : Extension) → h.ext ≡ Some x → (header_len_of h + 16 ≤ length b) × (field (header_len_of h) 16 b ≡ pad_name)

pad_first : (p : Polarity) (x : Extension) (used : ℕ) → take 16 (ext_pad p (Some x) used) ≡ pad_name
unfolding ext_pad header_bytes
pad_first p x used = refl

pad_least : (p : Polarity) (x : Extension) (used : ℕ) → 24 ≤ length (ext_pad p (Some x) used)
unfolding ext_pad
pad_least p x used = omega (arith, length-append (pad_head_of (24 + ext_len x) p) (ext_spelled x used), length-pad_head (24 + ext_len x) p)

pad_there : (p : Polarity) (o : Option Extension) (used at : ℕ) (b : List ℕ) → ContainsSpan b (record { at = at; bytes = ext_pad p o used })
    → (x : Extension) → o ≡ Some x → (at + 16 ≤ length b) × (field at 16 b ≡ pad_name)
pad_there p None used at b span x some = cc
pad_there p (Some y) used at b span x some =
    let long = pad_least p y used in (
      omega (arith, long, span.0),
      sym (take-take_le 16 (length (ext_pad p (Some y) used)) (drop at b) (omega (arith, long))) ∙ ap (take 16) span.1 ∙ pad_first p y used,
    )

pub front_shown : (h : HeadFields) (erased : ℕ) (stored : List StoredFile) (starts b : List ℕ) → IsReadHead h
    → ShowsPlaced h.length erased (placed_in_volume h stored starts) b → CanonicalFront h b
front_shown h erased stored starts b read shows =
    let is = canonical_is h read in
    let within : 54 ≤ length (canonical_head h) = omega (arith, is.head.least) in
    record {
      offset = ap le (sym (field-take 52 2 (length (canonical_head h)) b within) ∙ ap (field 52 2) shows.contained.0.1) ∙ is.offset;
      pad = λ x some. pad_there (polarity_of h.attributes) h.ext _ (header_len_of h) b shows.contained.1.0 x some;
    }

-- ---- 4. the GUID of a file system

first_byte : (fs : FileSystem) → (120 ≤ get_or (system_guid fs) 0 0) × (get_or (system_guid fs) 0 0 ≤ 122)
first_byte Ffs2 = (omega arith, omega arith)
first_byte Ffs3 = (omega arith, omega arith)

eighth_byte : (fs : FileSystem) → 77 ≤ get_or (system_guid fs) 7 0
eighth_byte Ffs2 = omega arith
eighth_byte Ffs3 = omega arith

ninth_byte : (fs : FileSystem) → 153 ≤ get_or (system_guid fs) 8 0
ninth_byte Ffs2 = omega arith
ninth_byte Ffs3 = omega arith

-- as a length, and as a number of blocks and their size, the first eight bytes are more than the limit of a volume
long_guid : (fs : FileSystem) → volume_limit < le (take 8 (system_guid fs))
long_guid Ffs2 = omega arith
long_guid Ffs3 = omega arith

large_guid : (fs : FileSystem) → volume_limit < le (field 0 4 (system_guid fs)) * le (field 4 4 (system_guid fs))
large_guid Ffs2 = omega arith
large_guid Ffs3 = omega arith

-- the byte at the offset k is a byte of a field
byte_at : (d xs : List ℕ) (at n i k : ℕ) → field at n d ≡ xs → i < n → k ≡ at + i → get_or d k 0 ≡ get_or xs i 0
byte_at d xs at n i k is less place =
    ap (λ (j : ℕ). get_or d j 0) place ∙ sym (get_or-drop at d i 0) ∙ sym (get_or-take n (drop at d) i 0 less)
    ∙ ap (λ (ys : List ℕ). get_or ys i 0) is

-- the blocks of one pair have at most as many bytes as the blocks of all pairs
pair_most : (xs : List ℕ) (i : ℕ) → 8 * i + 8 ≤ length xs → le_at (8 * i) 4 xs * le_at (8 * i + 4) 4 xs ≤ bytes_in (pairs_of xs)
pair_most [] i inside = absurd (omega (arith, inside))
pair_most (a ∷ []) i inside = absurd (omega (arith, inside))
pair_most (a ∷ b ∷ []) i inside = absurd (omega (arith, inside))
pair_most (a ∷ b ∷ c ∷ []) i inside = absurd (omega (arith, inside))
pair_most (a ∷ b ∷ c ∷ d ∷ []) i inside = absurd (omega (arith, inside))
pair_most (a ∷ b ∷ c ∷ d ∷ e ∷ []) i inside = absurd (omega (arith, inside))
pair_most (a ∷ b ∷ c ∷ d ∷ e ∷ f ∷ []) i inside = absurd (omega (arith, inside))
pair_most (a ∷ b ∷ c ∷ d ∷ e ∷ f ∷ g ∷ []) i inside = absurd (omega (arith, inside))
pair_most (a ∷ b ∷ c ∷ d ∷ e ∷ f ∷ g ∷ k ∷ xs) zero inside =
    omega (arith, sum_by-cons (λ (p : ℕ × ℕ). p.0 * p.1) (le (a ∷ b ∷ c ∷ d ∷ []), le (e ∷ f ∷ g ∷ k ∷ [])) (pairs_of xs))
pair_most (a ∷ b ∷ c ∷ d ∷ e ∷ f ∷ g ∷ k ∷ xs) (suc i) inside =
    let moved : (j n : ℕ) → n ≡ 8 + j → le_at n 4 (a ∷ b ∷ c ∷ d ∷ e ∷ f ∷ g ∷ k ∷ xs) ≡ le_at j 4 xs = λ j n is.
    ap (λ (n : ℕ). le_at n 4 (a ∷ b ∷ c ∷ d ∷ e ∷ f ∷ g ∷ k ∷ xs)) is
    ∙ ap (λ (ys : List ℕ). le (take 4 ys)) (sym (drop-drop j 8 (a ∷ b ∷ c ∷ d ∷ e ∷ f ∷ g ∷ k ∷ xs))) in
    let rest : le_at (8 * i) 4 xs * le_at (8 * i + 4) 4 xs ≤ bytes_in (pairs_of xs) = pair_most xs i (omega (arith, inside)) in
    rw (moved (8 * i) (8 * suc i) (omega arith), moved (8 * i + 4) (8 * suc i + 4) (omega arith))
    (omega (arith, rest, sum_by-cons (λ (p : ℕ × ℕ). p.0 * p.1) (le (a ∷ b ∷ c ∷ d ∷ []), le (e ∷ f ∷ g ∷ k ∷ [])) (pairs_of xs)))

module _ (h : HeadFields) (e : Extent) (d : List ℕ) (front : BeginsVolume h e d) (fs : FileSystem) where
  head_field : (i n : ℕ) → i + n ≤ e.header_len → field i n (take e.header_len d) ≡ field i n d
  head_field i n inside = field-take i n e.header_len d inside

  least : 64 ≤ e.header_len
  least = (front_lies d h e front).least

  not_in_guid : field 24 16 d ≡ system_guid fs → ⊥
  not_in_guid is =
      let own = byte_at d (system_guid h.file_system) 16 16 8 24 (sym (head_field 16 16 (omega (arith, least))) ∙ front.head.file_system) (omega arith) refl in
      omega (arith, own, byte_at d (system_guid fs) 24 16 0 24 is (omega arith) refl, first_byte fs, ninth_byte h.file_system)

  not_in_length : field 32 16 d ≡ system_guid fs → ⊥
  not_in_length is =
      let number : le_at 32 8 d ≡ h.length = ap le (sym (head_field 32 8 (omega (arith, least)))) ∙ front.head.volume_length in
      let first : field 32 8 d ≡ take 8 (system_guid fs) = sym (take-take_le 8 16 (drop 32 d) (omega arith)) ∙ ap (take 8) is in
      omega (arith, number, ap le first, long_guid fs, front.head.volume_most)

  not_in_signature : field 40 16 d ≡ system_guid fs → ⊥
  not_in_signature is =
      let own = byte_at d signature_bytes 40 4 0 40 (sym (head_field 40 4 (omega (arith, least))) ∙ front.head.signature) (omega arith) refl in
      omega (arith, own, byte_at d (system_guid fs) 40 16 0 40 is (omega arith) refl, first_byte fs)

  not_in_revision : field 48 16 d ≡ system_guid fs → ⊥
  not_in_revision is =
      let own : get_or d 55 0 ≡ 2 = sym (get_or-take e.header_len d 55 0 (omega (arith, least))) ∙ front.head.revision in
      omega (arith, own, byte_at d (system_guid fs) 48 16 7 55 is (omega arith) refl, eighth_byte fs)

  not_in_blocks : (at : ℕ) → at % 8 ≡ 0 → 56 ≤ at → at + 8 ≤ e.header_len → field at 16 d ≡ system_guid fs → ⊥
  not_in_blocks at multiple low high is =
      let header : List ℕ = take e.header_len d in
      let i : ℕ = (at - 56) / 8 in
      let place : 56 + 8 * i ≡ at = omega (arith, multiple, low) in
      let long : length header ≡ e.header_len = length-take-le e.header_len d front.long_enough in
      let most = pair_most (drop 56 header) i (omega (arith, length-drop 56 header, long, place, high)) in
      let part : (j k : ℕ) → 56 + j ≡ at + k → k + 4 ≤ 8 → le_at j 4 (drop 56 header) ≡ le (field k 4 (system_guid fs)) = λ j k same inside.
      ap le (ap (take 4) (drop-drop j 56 header) ∙ ap (λ (n : ℕ). field n 4 header) same ∙ head_field (at + k) 4 (omega (arith, high, inside))
      ∙ ap (take 4) (sym (drop-drop k at d)) ∙ sym (field-take k 4 16 (drop at d) (omega (arith, inside))) ∙ ap (field k 4) is) in
      let product : le_at (8 * i) 4 (drop 56 header) * le_at (8 * i + 4) 4 (drop 56 header)
      ≡ le (field 0 4 (system_guid fs)) * le (field 4 4 (system_guid fs)) =
      rw (part (8 * i) 0 (omega (arith, place)) (omega arith), part (8 * i + 4) 4 (omega (arith, place)) (omega arith)) refl in
      let blocks : bytes_in (pairs_of (drop 56 header)) ≡ bytes_in h.blocks + 0 =
      ap bytes_in front.head.block_map ∙ sum_by_push (λ (p : ℕ × ℕ). p.0 * p.1) h.blocks (0, 0) in
      omega (arith, most, product, blocks, front.head.makes_up, large_guid fs, front.head.volume_most)

  moved : (at to : ℕ) → at ≡ to → field at 16 d ≡ system_guid fs → field to 16 d ≡ system_guid fs
  moved at to same is = subst (λ (i : ℕ). field i 16 d ≡ system_guid fs) same is

  -- the GUID of a file system does not lie in the header after the header's own GUID
  pub not_in_header : (at : ℕ) → at % 8 ≡ 0 → 24 ≤ at → at + 8 ≤ e.header_len → field at 16 d ≡ system_guid fs → ⊥
  not_in_header at multiple low high is = elim (cases_lt at 56) [
    | inr past ↦ not_in_blocks at multiple past high is
    | inl before ↦ elim (cases_lt at 32) [
      | inl here ↦ not_in_guid (moved at 24 (omega (arith, multiple, low, here)) is)
      | inr past ↦ elim (cases_lt at 40) [
        | inl here ↦ not_in_length (moved at 32 (omega (arith, multiple, past, here)) is)
        | inr past ↦ elim (cases_lt at 48) [
          | inl here ↦ not_in_signature (moved at 40 (omega (arith, multiple, past, here)) is)
          | inr past ↦ not_in_revision (moved at 48 (omega (arith, multiple, past, before)) is)
        ]
      ]
    ]
  ]

-- the GUID of a file system does not begin in the name of a pad
pub not_in_pad : (d : List ℕ) (header at : ℕ) (fs : FileSystem) → field header 16 d ≡ pad_name → header ≤ at → at < header + 16
    → field at 16 d ≡ system_guid fs → ⊥
not_in_pad d header at fs pad low high is =
    let own : get_or d at 0 ≡ get_or pad_name (at - header) 0 =
    byte_at d pad_name header 16 (at - header) at pad (omega (arith, low, high)) (omega (arith, low)) in
    let filled : get_or pad_name (at - header) 0 ≡ 255 = get_or-replicate 16 (at - header) 255 0 (omega (arith, low, high)) in
    omega (arith, own, filled, byte_at d (system_guid fs) at 16 0 at is (omega arith) (omega arith), first_byte fs)

-- ---- for a canonical image

-- the offset after the last byte that the checks of a canonical image's header read
abbrev pub reach_of : ℕ → Option Extension → ℕ
reach_of header None = header
reach_of header (Some x) = header + 44

-- in a canonical image, no header of a volume begins after the first byte and at most 50 bytes before that offset
pub no_header : (h : HeadFields) (e : Extent) (d : List ℕ) (x : Option Extension) (fs : FileSystem) (at : ℕ) → BeginsVolume h e d
    → CanonicalFront h d → h.ext ≡ x → at % 8 ≡ 0 → 8 ≤ at → at + 50 < reach_of e.header_len x → field (at + 16) 16 d ≡ system_guid fs → ⊥
no_header h e d None fs at front shown is multiple low near guid =
    not_in_header h e d front fs (at + 16) (omega (arith, multiple)) (omega (arith, low)) (omega (arith, near)) guid
no_header h e d (Some x) fs at front shown is multiple low near guid =
    let long : length (take e.header_len d) ≡ e.header_len = length-take-le e.header_len d front.long_enough in
    let own : header_len_of h ≡ e.header_len = header_len_is h (take e.header_len d) front.head ∙ long in
    elim (cases_lt e.header_len (at + 24)) [
      | inr inside ↦ not_in_header h e d front fs (at + 16) (omega (arith, multiple)) (omega (arith, low)) (omega (arith, inside)) guid
      | inl past ↦
          not_in_pad d (header_len_of h) (at + 16) fs (shown.pad x is).1 (omega (arith, own, past, multiple, front.head.multiple, long))
          (omega (arith, own, near)) guid
    ]

-- the checks of the header of a canonical image read no byte at or after that offset
pub reads_less : (h : HeadFields) (e : Extent) (d : List ℕ) (x : Option Extension) → BeginsVolume h e d → CanonicalFront h d → h.ext ≡ x
    → (e.header_len ≤ reach_of e.header_len x) × (ext_offset_at d + 20 ≤ reach_of e.header_len x)
reads_less h e d x front shown is = go x is where
  own : header_len_of h ≡ e.header_len
  own = header_len_is h (take e.header_len d) front.head ∙ length-take-le e.header_len d front.long_enough

  offset : (x : Option Extension) → h.ext ≡ x → ext_offset_at d ≡ canonical_offset h x
  offset x is = shown.offset ∙ ap (canonical_offset h) is

  go : (x : Option Extension) → h.ext ≡ x → (e.header_len ≤ reach_of e.header_len x) × (ext_offset_at d + 20 ≤ reach_of e.header_len x)
  go None is = (omega arith, omega (arith, offset None is, (front_lies d h e front).least))
  go (Some y) is = (omega arith, omega (arith, offset (Some y) is, own))
