-- A sink that sums takes only the State of a file with the checksum attribute (`state_adds`), because the other bytes
-- of the stored file sum to zero (`stored_adds`, `summed_adds`).
use Rattle.std.proofs.Common.{◌≡◌, ◌+◌, ◌%◌, ℕ, [], ◌∷◌, if◌then◌else◌, Bool, true, false, List, ap, ◌∙◌, arith, sum, ◌++◌}
use Rattle.fv_base.proofs.Laws.{common_steps, sum_by-append, le_bytes}
use Rattle.fv_base.specs.declared.flash.Polarity.{Polarity}
use Rattle.fv_file.specs.Words.{is_summed, state_byte, fixed_checksum, file_sum_for, complement, header_with, header_bytes}
use Rattle.fv_tree.specs.Words.{FileMeaning, File, attributes_of}
use Rattle.fv_canon.specs.inner.ImageOf.{stored_file, written_data}
use Rattle.fv_canon.specs.inner.SummingSinks.{AddsOrPuts}
use Rattle.fv_canon.specs.Words.{stored_bytes, StoredFile}

-- ---- the number that the bytes of a file add to a sum

sum-joined : (a b : List ℕ) → sum (a ++ b) ≡ sum a + sum b
sum-joined a b = sum_by-append (λ (x : ℕ). x) a b

-- the sum of a header is the sum of the header with checksums and State zero, plus the header checksum, the file
-- checksum and State
header_sum : (c file_sum : ℕ) (name : List ℕ) (kind attributes size : ℕ) (large : Bool) (state : ℕ)
    → sum (header_with c file_sum name kind attributes size large state)
    ≡ sum (header_with 0 0 name kind attributes size large 0) + (c + file_sum + state)
header_sum c file_sum name kind attributes size large state =
    by (if large then le_bytes 3 0 else le_bytes 3 size) (if large then le_bytes 8 size else [])
  where
    by : (x y : List ℕ) → sum (name ++ (c ∷ file_sum ∷ kind ∷ attributes ∷ []) ++ x ++ (state ∷ []) ++ y)
        ≡ sum (name ++ (0 ∷ 0 ∷ kind ∷ attributes ∷ []) ++ x ++ (0 ∷ []) ++ y) + (c + file_sum + state)
    by x y = simp sum-joined (omega arith)

-- a written header adds its file checksum and State
header_adds : (file_sum : ℕ) (name : List ℕ) (kind attributes size : ℕ) (large : Bool) (state : ℕ)
    → sum (header_bytes file_sum name kind attributes size large state) % 256 ≡ (file_sum + state) % 256
unfolding header_bytes
header_adds file_sum name kind attributes size large state = grind (arith, common_steps, header_sum)

-- a file with the checksum attribute adds only its State, because its data and its file checksum sum to zero; any other
-- file adds 0xAA, its State and its data
stored_adds : (p : Polarity) (f : StoredFile) → sum (stored_bytes p f) % 256
    ≡ (if is_summed f.attributes then state_byte p else (fixed_checksum + state_byte p + sum f.payload)) % 256
unfolding stored_bytes
stored_adds p f =
    rw sum-joined (joined _ (sum f.payload) (state_byte p) (is_summed f.attributes) (header_adds (file_sum_for f.attributes f.payload) _ _ _ _ _ _))
  where
    joined : (h d s : ℕ) (b : Bool) → h % 256 ≡ ((if b then complement d else fixed_checksum) + s) % 256
        → (h + d) % 256 ≡ (if b then s else (fixed_checksum + s + d)) % 256
    joined h d s b e = grind (arith, common_steps)

-- a file with the checksum attribute adds only its State
summed_adds : (p : Polarity) (m : FileMeaning) (starts : List ℕ) (t u : ℕ) → is_summed (attributes_of m) ≡ true
    → u % 256 ≡ (t + sum (state_byte p ∷ [])) % 256 → u % 256 ≡ (t + sum (stored_bytes p (stored_file m starts))) % 256
summed_adds p (File name kind attributes content) starts t u is e =
    omega (arith, e, stored_adds p (stored_file (File name kind attributes content) starts) ∙ ap (λ (b : Bool). (if b then state_byte p else (fixed_checksum + state_byte p + sum (written_data content starts))) % 256) is)

-- so a sink that sums takes only the State of a file with the checksum attribute
pub state_adds : {S : Type 0} (takes : S → List ℕ → S → Type 0) (sums : Bool) (s t : S) (m n : ℕ) (p : Polarity) (file : FileMeaning)
    (starts : List ℕ) → sums ≡ true → is_summed (attributes_of file) ≡ true → AddsOrPuts takes sums s m (state_byte p ∷ []) t n
    → AddsOrPuts takes sums s m (stored_bytes p (stored_file file starts)) t n
state_adds takes true s t m n p file starts on is put = (put.0, summed_adds p file starts m n is put.1)
state_adds takes false s t m n p file starts on is put = let bad : false ≡ true = on in cc
