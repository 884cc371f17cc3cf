-- Each piece lies within the bytes that are left, and has a multiple of 8 bytes, at least 8 (`piece_lies`).
use Rattle.std.proofs.Common.{◌≡◌, ◌≤◌, ◌<◌, ◌+◌, ◌*◌, ◌/◌, ◌-◌, ◌%◌, ◌==◌, ℕ, [], ◌∷◌, if◌then◌else◌, leb-true, Bool, true, false}
use Rattle.fv_base.proofs.Laws.{List, length, drop, refl, arith, common_steps, zero, suc, all_are, and_split, erased_byte, nat_le, nat_lt, slice_index}
use Rattle.fv_base.proofs.Laws.{Option, None, Some, subst}
use Rattle.fv_base.specs.declared.fault.FaultKind.{FaultKind}
use Rattle.fv_base.specs.declared.fault.FaultKind.TheVariants as kinds
use Rattle.fv_file.specs.Words.{file_header_len, file_header_len_at, is_large, leading_count, state_of}
use Rattle.fv_survey.proofs.StrictPieceLaws.{Fit, sound_fit, stub_within}
use Rattle.fv_survey.specs.Words.{bytes_before, damaged_piece, data_end, file_findings, file_piece, fits, headed_piece, is_read_cut}
use Rattle.fv_survey.specs.Words.{is_read_whole, is_stub_state, is_tailed, lost_len, may_be_header, none, only, piece_by, piece_with}
use Rattle.fv_survey.specs.Words.{plain_piece, read_sizes, resumes, sizes_by, sound_piece, space_piece, strict_kind, sums_to_zero}
use Rattle.fv_survey.specs.declared.findings.Findings.{Findings}
use Rattle.fv_survey.specs.declared.pieces.Layout.{Layout}
use Rattle.fv_survey.specs.declared.pieces.Sizes.{Sizes}
use Rattle.fv_survey.specs.declared.pieces.Sort.{Sort}
use Rattle.fv_survey.specs.declared.pieces.Sort.TheVariants as sorts
use Rattle.fv_survey.specs.declared.systems.Files.{Files}
use Rattle.fv_survey.specs.inner.Pieces.{IsPiece, is_node}

-- ---- pieces without a header

plain_lies : (sort : Sort) (n m : ℕ) (set : Findings) → is_node sort ≡ false → 0 < n → n ≤ m → n % 8 ≡ 0 → IsPiece m (plain_piece sort n set)
unfolding plain_piece
plain_lies sort n m set leaf some within in_eights = record {
  header = omega arith;
  size = omega arith;
  within = within;
  some = some;
  multiple = in_eights;
  headed = λ node. cc;
}

-- the number of words before a place is at most the number of all words
words_before : (layout : Layout) (n : ℕ) (r : List ℕ) → (k : ℕ) × (bytes_before layout n r ≡ 8 * k) × (k ≤ n)
words_before layout zero r = (0, refl, omega arith)
words_before layout (suc n) r = go (resumes layout r) (words_before layout n (drop 8 r)) where
  go : (t : Bool) → (k : ℕ) × (bytes_before layout n (drop 8 r) ≡ 8 * k) × (k ≤ n)
      → (k : ℕ) × ((if t then 0 else 8 + bytes_before layout n (drop 8 r)) ≡ 8 * k) × (k ≤ suc n)
  go true w = (0, refl, omega arith)
  go false (k, is, few) = (k + 1, omega (arith, is), omega (arith, few))

-- at least 8 bytes are lost, a multiple of 8, and at most all bytes
pub lost_bounds : (layout : Layout) (r : List ℕ) → 0 < length r → length r % 8 ≡ 0
    → (0 < lost_len layout r) × (lost_len layout r ≤ length r) × (lost_len layout r % 8 ≡ 0)
unfolding lost_len
lost_bounds layout r some in_eights =
    let w = words_before layout (length r / 8 - 1) (drop 8 r) in
    (omega arith, omega (arith, w.1, w.2, some, in_eights), omega (arith, w.1))

lost_lies : (layout : Layout) (r : List ℕ) (set : Findings) → 0 < length r → length r % 8 ≡ 0
    → IsPiece (length r) (plain_piece sorts.Lost (lost_len layout r) set)
lost_lies layout r set some in_eights =
    let b = lost_bounds layout r some in_eights in
    plain_lies sorts.Lost (lost_len layout r) (length r) set refl b.0 b.1 b.2

leading_within : (e : ℕ) (r : List ℕ) → leading_count e r ≤ length r
leading_within e [] = omega arith
leading_within e (x ∷ r) = go (x == e) (leading_within e r) where
  go : (t : Bool) → leading_count e r ≤ length r → (if t then 1 + leading_count e r else 0) ≤ length (x ∷ r)
  go true l = omega (arith, l)
  go false l = omega arith

space_lies : (layout : Layout) (r : List ℕ) → 0 < length r → length r % 8 ≡ 0 → IsPiece (length r) (space_piece layout r)
unfolding space_piece
space_lies layout r some in_eights = go (all_are (erased_byte layout.polarity) r) _ refl where
  go : (all more : Bool) → nat_le 8 (leading_count (erased_byte layout.polarity) r) ≡ more
      → IsPiece (length r) (if all then plain_piece sorts.Free (length r) none
      else (if more then plain_piece sorts.Free (leading_count (erased_byte layout.polarity) r / 8 * 8) (only kinds.FreeSpace)
      else plain_piece sorts.Lost (lost_len layout r) (only kinds.FreeSpace)))
  go true more is = plain_lies sorts.Free (length r) (length r) none refl some (omega arith) in_eights
  go false true is =
      let n : ℕ = leading_count (erased_byte layout.polarity) r in
      let least : 8 ≤ n = leb-true 8 n is in
      plain_lies sorts.Free (n / 8 * 8) (length r) _ refl (omega (arith, least)) (omega (arith, leading_within (erased_byte layout.polarity) r))
      (omega arith)
  go false false is = lost_lies layout r _ some in_eights

-- ---- files

-- the data end after the header and within the file
data_bounds : (f : Files) (sizes : Sizes) (r : List ℕ) → sizes.header ≤ sizes.size
    → (sizes.header ≤ data_end f sizes r) × (data_end f sizes r ≤ sizes.size)
unfolding is_tailed
data_bounds f sizes r least = grind (arith, common_steps, and_split, leb-true)

file_lies : (layout : Layout) (sizes : Sizes) (set : Findings) (r : List ℕ) → length r % 8 ≡ 0 → Fit sizes r
    → IsPiece (length r) (file_piece layout sizes set r)
unfolding file_piece
file_lies layout sizes set r in_eights (long, least, within) =
    let ends = data_bounds layout.files sizes r least in
    record {
      header = ends.0;
      size = omega (arith, ends.1);
      within = omega (arith, within, in_eights);
      some = omega (arith, long, least);
      multiple = omega arith;
      headed = λ node. omega (arith, long);
    }

-- the sizes of a file that ends after n bytes
abbrev ended : Sizes → ℕ → Sizes
ended stated n = record { header = stated.header; size = n }

-- a file that is read has possible sizes
pub read_fit : (layout : Layout) (stated sizes : Sizes) (r : List ℕ) → 24 ≤ stated.header → read_sizes layout stated r ≡ Some sizes
    → Fit sizes r
unfolding read_sizes sums_to_zero
read_fit layout stated sizes r long = go _ refl _ refl where
  go : (w : Bool) → is_read_whole layout stated r ≡ w → (t : Bool) → is_read_cut layout stated r ≡ t
      → (if w then Some stated else (if t then Some (ended stated (length r)) else None)) ≡ Some sizes → Fit sizes r
  go true whole t cut is =
      let same : stated ≡ sizes = cc in
      let parts = and_split (nat_le stated.header stated.size) _ (and_split (fits stated (length r)) _ whole).0 in
      subst (λ (z : Sizes). Fit z r) same (long, leb-true _ _ parts.0, leb-true _ _ parts.1)
  go false whole true cut is =
      let same : ended stated (length r) ≡ sizes = cc in
      let parts = and_split (nat_lt (length r) stated.size) _ (and_split layout.is_cut _ cut).1 in
      let zero = and_split (nat_le stated.header (length r)) _ parts.1 in
      subst (λ (z : Sizes). Fit z r) same (long, leb-true _ _ zero.0, omega arith)
  go false whole false cut is = cc

sizes_least : (f : Files) (r : List ℕ) → 24 ≤ (sizes_by f r).header
unfolding sizes_by
sizes_least f r = grind (arith, common_steps) steps 150000

damaged_lies : (kind : FaultKind) (layout : Layout) (r : List ℕ) → 0 < length r → length r % 8 ≡ 0
    → IsPiece (length r) (damaged_piece kind layout r)
unfolding damaged_piece
damaged_lies kind layout r some in_eights = go (read_sizes layout (sizes_by layout.files r) r) refl where
  go : (o : Option Sizes) → read_sizes layout (sizes_by layout.files r) r ≡ o → IsPiece (length r) (piece_with o kind layout r)
  go None is = lost_lies layout r (only kind) some in_eights
  go (Some sizes) is =
      file_lies layout sizes (file_findings kind layout (sizes_by layout.files r) sizes r) r in_eights
      (read_fit layout (sizes_by layout.files r) sizes r (sizes_least layout.files r) is)

stub_eights : (large : Bool) → (0 < file_header_len large) × (file_header_len large % 8 ≡ 0)
stub_eights false = (omega arith, refl)
stub_eights true = (omega arith, refl)

sound_lies : (layout : Layout) (r : List ℕ) → length r % 8 ≡ 0 → strict_kind layout r ≡ None → IsPiece (length r) (sound_piece layout r)
unfolding sound_piece
sound_lies layout r in_eights is = go (is_stub_state (state_of layout.polarity (slice_index r 23))) refl where
  go : (t : Bool) → is_stub_state (state_of layout.polarity (slice_index r 23)) ≡ t
      → IsPiece (length r) (if t then plain_piece sorts.Stub (file_header_len_at r) none
      else file_piece layout (sizes_by layout.files r) none r)
  go true stub =
      let n = stub_eights (is_large (slice_index r 19)) in
      plain_lies sorts.Stub (file_header_len_at r) (length r) none refl n.0 (stub_within layout r is stub) n.1
  go false stub = file_lies layout (sizes_by layout.files r) none r in_eights (sound_fit layout r is stub)

headed_lies : (layout : Layout) (r : List ℕ) → 0 < length r → length r % 8 ≡ 0
    → IsPiece (length r) (headed_piece (strict_kind layout r) layout r)
headed_lies layout r some in_eights = go (strict_kind layout r) refl where
  go : (o : Option FaultKind) → strict_kind layout r ≡ o → IsPiece (length r) (headed_piece o layout r)
  go None is = sound_lies layout r in_eights is
  go (Some kind) is = damaged_lies kind layout r some in_eights

-- each piece lies within the bytes that are left
pub piece_lies : (layout : Layout) (r : List ℕ) → 0 < length r → length r % 8 ≡ 0 → IsPiece (length r) (piece_by layout r)
unfolding piece_by
piece_lies layout r some in_eights = go (may_be_header layout.polarity r) where
  go : (t : Bool) → IsPiece (length r) (if t then headed_piece (strict_kind layout r) layout r else space_piece layout r)
  go true = headed_lies layout r some in_eights
  go false = space_lies layout r some in_eights
