-- Files and pads that are written as in the canonical image tile the body. The steps:
-- 1. Pads tile a gap (`pad_tiles`, `gap_tiles`), and a free cell tiles the erased bytes at the end (`free_tiles`).
-- 2. A file with its filler is a cell (`cell_tiles`). So the body is tiled, gap by gap and file by file (`body_tiles`).
use Rattle.std.proofs.Common.{◌≡◌, ◌≤◌, ◌<◌, ◌⊎◌, ◌+◌, ◌-◌, ◌%◌, ℕ, [], ◌∷◌, ◌++◌, inl, inr, zero, suc, true, false, List, length, replicate, refl}
use Rattle.std.proofs.Common.{sym, ap, ◌∙◌, subst, arith, length-append, append_assoc, append-nil, map, slice_index}
use Rattle.fv_base.proofs.Laws.{common_steps, AllByRecursion, length-replicate, alignment_of, AllAre, erased_byte, up_to_8, all-of_replicate}
use Rattle.fv_base.specs.declared.flash.FileSystem.{FileSystem}
use Rattle.fv_base.specs.declared.flash.Polarity.{Polarity}
use Rattle.fv_file.specs.Words.{CellForm, Valid, Pad, Free, IsCell, Tiles, offset_of, is_free, attribute_bits, is_large, fixed_checksum, pad_fields, pad_head_of}
use Rattle.fv_file.proofs.Laws.{alignment_with}
use Rattle.fv_placement.specs.Words.{StartsFollow}
use Rattle.fv_tree.specs.Words.{FileForm, files_in}
use Rattle.fv_canon.specs.Words.{DataAligned, StoredFile, stored_len, stored_bytes, pad_bytes, long_pad, gap_bytes}
use Rattle.fv_canon.specs.inner.ImageOf.{files_bytes}
use Rattle.fv_canon.proofs.ImageParts.{stored_item}
use Rattle.fv_canon.proofs.PadLaws.{gap_none, gap_has}
use Rattle.fv_canon.proofs.CellLaws.{Storable, stored_head, file_cell, length-stored, pad_cell, length-pad}

-- the files as they are stored in the image
abbrev pub forms_of : Polarity → List StoredFile → List ℕ → List FileForm
forms_of p (f ∷ fs) (s ∷ ss) = record { offset = s; head = stored_head p f; payload = f.payload } ∷ forms_of p fs ss
forms_of p fs starts = []

-- if the cell is a pad, its data are erased
abbrev pub PadErased : Polarity → CellForm → Type 0
PadErased p (Pad at head payload) = AllAre (erased_byte p) payload
PadErased p _ = Unit {0}

-- if the cell is a pad, its file checksum is 0xAA
abbrev pub PadFixed : CellForm → Type 0
PadFixed (Pad at head payload) = head.file_sum ≡ fixed_checksum
PadFixed _ = Unit {0}

-- some cells tile the bytes, and `forms` are the files among these cells
pub record Tiled (system : FileSystem) (p : Polarity) (at : ℕ) (b : List ℕ) (forms : List FileForm) : Type 0 where
  pub cells : List CellForm
  pub tiles : Tiles system p at cells b
  pub files_are : files_in cells ≡ forms
  pub aligned : DataAligned cells
  pub erased : AllByRecursion (PadErased p) cells
  pub fixed : AllByRecursion PadFixed cells

-- ---- a gap

pad_tiles : (system : FileSystem) (p : Polarity) (size at : ℕ) (rest : List ℕ) (forms : List FileForm) → 24 ≤ size → size ≤ 0xffffff
    → size % 8 ≡ 0
    → Tiled system p (at + size) rest forms → Tiled system p at (pad_bytes p size ++ rest) forms
unfolding pad_bytes
pad_tiles system p size at rest forms least most multiple behind =
    let payload : List ℕ = replicate (size - 24) (erased_byte p) in
    let cell : CellForm = Pad at (pad_fields size (slice_index (pad_head_of size p) 16)) payload in
    let long : 24 + length payload ≡ size = omega (arith, least, length-replicate (size - 24) (erased_byte p)) in
    let is = rw append-nil at (pad_cell system p size payload [] most long (omega arith) (omega (arith, multiple)) at) in
    record {
      cells = cell ∷ behind.cells;
      tiles = (pad_bytes p size, rest, refl, is, refl, λ e. let bad : false ≡ true = e in cc, rw (length-pad p size least) behind.tiles);
      files_are = behind.files_are;
      aligned = behind.aligned;
      erased = (all-of_replicate (erased_byte p) (size - 24), behind.erased);
      fixed = (refl, behind.fixed);
    }

gap_tiles : (system : FileSystem) (p : Polarity) (gap at : ℕ) (rest : List ℕ) (forms : List FileForm) → (gap ≡ 0) ⊎ (24 ≤ gap) → gap % 8 ≡ 0
    → Tiled system p (at + gap) rest forms → Tiled system p at (gap_bytes p gap ++ rest) forms
gap_tiles system p gap at rest forms (inl z) multiple behind =
    rw (gap_none p gap z) (subst (λ (k : ℕ). Tiled system p k rest forms) (omega (arith, z)) behind)
gap_tiles system p gap at rest forms (inr l) multiple behind =
    gap_has p (λ n xs. (at : ℕ) (rest : List ℕ) → Tiled system p (at + n) rest forms → Tiled system p at (xs ++ rest) forms)
    (λ n least most eighth at rest behind. pad_tiles system p n at rest forms least (omega (arith, most)) eighth behind)
    (λ n xs past next at rest behind. subst (λ ys. Tiled system p at ys forms) (sym (append_assoc (pad_bytes p long_pad) xs rest))
    (pad_tiles system p long_pad at (xs ++ rest) forms (omega arith) (omega arith) refl
    (next (at + long_pad) rest (subst (λ (k : ℕ). Tiled system p k rest forms) (omega (arith, past)) behind)))) gap l multiple at rest behind

pub length-gap : (p : Polarity) (gap : ℕ) → (gap ≡ 0) ⊎ (24 ≤ gap) → gap % 8 ≡ 0 → length (gap_bytes p gap) ≡ gap
length-gap p gap (inl z) multiple = ap length (gap_none p gap z) ∙ sym z
length-gap p gap (inr l) multiple =
    gap_has p (λ n xs. length xs ≡ n) (λ n least most eighth. length-pad p n least)
    (λ n xs past next. omega (arith, length-append (pad_bytes p long_pad) xs, length-pad p long_pad (omega arith), next, past)) gap l multiple

-- ---- erased bytes at the end

free_tiles : (system : FileSystem) (p : Polarity) (at n : ℕ) → Tiled system p at (replicate n (erased_byte p)) []
free_tiles system p at zero = record { cells = []; tiles = refl; files_are = refl; aligned = tt; erased = tt; fixed = tt }
free_tiles system p at (suc n) =
    let free : List ℕ = replicate (suc n) (erased_byte p) in
    let all = all-of_replicate (erased_byte p) (suc n) in
    record {
      cells = Free at (suc n) ∷ [];
      tiles = (free, [], sym (append-nil free), (omega arith, all, sym (length-replicate (suc n) (erased_byte p))), refl, λ e. refl, refl);
      files_are = refl;
      aligned = tt;
      erased = (tt, tt);
      fixed = (tt, tt);
    }

-- ---- file by file

-- the gap from an edge to the file after it is empty or has at least 24 bytes, and its length is a multiple of 8
pub apart : (e s : ℕ) → e % 8 ≡ 0 → s % 8 ≡ 0 → (s ≡ e) ⊎ (e + 24 ≤ s)
    → ((s - e ≡ 0) ⊎ (24 ≤ s - e)) × ((s - e) % 8 ≡ 0) × (e + (s - e) ≡ s)
apart e s m k (inl a) = (inl (omega arith), omega arith, omega arith)
apart e s m k (inr a) = (inr (omega arith), omega arith, omega arith)

-- the filler after a file leads to the next multiple of 8
pub filler_is : (x : ℕ) → (up_to_8 x - x < 8) × ((x + (up_to_8 x - x)) ≡ up_to_8 x) × (up_to_8 x % 8 ≡ 0)
filler_is x = (omega arith, omega arith, omega arith)

-- the data of a stored file are aligned, because the large bit does not change the alignment that the attributes state
data_aligned : (p : Polarity) (f : StoredFile) (s : ℕ) → is_large f.attributes ≡ false
    → (s + (stored_item f).header) % (stored_item f).alignment ≡ 0
    → (s + (stored_head p f).header_len) % alignment_of (attribute_bits (stored_head p f).attributes) ≡ 0
data_aligned p f s short h = grind (arith, common_steps, alignment_with)

-- if a file or a pad with its filler is a cell, and cells tile the bytes after the filler, cells tile all these bytes
pub cell_tiles : (system : FileSystem) (p : Polarity) (at end : ℕ) (c : CellForm) (x rest : List ℕ) (cells : List CellForm)
    → at % 8 ≡ 0 → at + length x ≡ end → offset_of c ≡ at → is_free c ≡ false
    → ((filler : List ℕ) → length filler < 8 → (length x + length filler) % 8 ≡ 0 → IsCell system p c (x ++ filler))
    → Tiles system p (up_to_8 end) cells rest
    → Tiles system p at (c ∷ cells) (x ++ (replicate (up_to_8 end - end) (erased_byte p) ++ rest))
cell_tiles system p at end c x rest cells eighth long place kept cell more =
    let filler : List ℕ = replicate (up_to_8 end - end) (erased_byte p) in
    let short : length filler ≡ up_to_8 end - end = length-replicate (up_to_8 end - end) (erased_byte p) in
    let last : at + length (x ++ filler) ≡ up_to_8 end = omega (arith, length-append x filler) in
    (x ++ filler, rest, sym (append_assoc x filler rest), cell filler (omega arith) (omega arith), place, λ e. cc, rw last more)

-- files and pads tile the bytes of the files, of the gaps before them, and of the space after the last file
pub body_tiles : (system : FileSystem) (p : Polarity) (total e : ℕ) (fs : List StoredFile) (ss : List ℕ) → total % 8 ≡ 0 → e % 8 ≡ 0
    → AllByRecursion (Storable system) fs → StartsFollow total e (map stored_item fs) ss
    → Tiled system p e (files_bytes p total e fs ss) (forms_of p fs ss)
body_tiles system p total e [] [] h m all follow = free_tiles system p e (total - e)
body_tiles system p total e (f ∷ fs) (s ∷ ss) h m all follow =
    let a = apart e s m follow.0.lawful.eighth follow.0.lawful.gap in
    let x : ℕ = s + stored_len f in
    let behind = body_tiles system p total (up_to_8 x) fs ss h (filler_is x).2 all.1 follow.1 in
    let rest : List ℕ = files_bytes p total (up_to_8 x) fs ss in
    let cell = Valid s (stored_head p f) f.payload in
    gap_tiles system p (s - e) e (stored_bytes p f ++ (replicate (up_to_8 x - x) (erased_byte p) ++ rest)) (forms_of p (f ∷ fs) (s ∷ ss)) a.0 a.1
    (rw a.2 (record {
      cells = cell ∷ behind.cells;
      tiles = cell_tiles system p s x cell (stored_bytes p f) rest behind.cells follow.0.lawful.eighth (ap (λ (n : ℕ). s + n) (length-stored system p f all.0))
          refl refl (λ filler few multiple. file_cell system p f all.0 s filler few (rw (length-stored system p f all.0) at multiple)) behind.tiles;
      files_are = ap (λ (xs : List FileForm). record { offset = s; head = stored_head p f; payload = f.payload } ∷ xs) behind.files_are;
      aligned = (data_aligned p f s all.0.short follow.0.lawful.aligned, behind.aligned);
      erased = (tt, behind.erased);
      fixed = (tt, behind.fixed);
    }))
body_tiles system p total e fs ss h m all follow = absurd follow
