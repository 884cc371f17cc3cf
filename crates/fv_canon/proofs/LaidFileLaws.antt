-- Facts about a file that was read and laid out, and the walk over the files of a volume. The steps:
-- 1. The data that a walk writes are the file's data in the image, with the length that the layout assumed
--    (`file_laid`).
-- 2. The file begins at or after the edge, so that a pad fits in any gap between them, and ends within the volume
--    (`here_is`). The same is true of the file at each place of the walk (`at_file`).
-- 3. The bytes that are left to write are the gap before the file, the file, its filler, and then the files after it
--    (`walk_goes`). At the end only erased bytes are left (`files_end`).
use Rattle.std.proofs.Common.{◌≡◌, ◌≤◌, ◌<◌, ◌⊎◌, ◌+◌, ◌-◌, ◌%◌, ℕ, ◌∷◌, ◌++◌, List, length, drop, replicate, get_or, arith, append_assoc}
use Rattle.std.proofs.Common.{length-drop}
use Rattle.fv_base.proofs.Laws.{common_steps, drop_all, drop_more, length-map, erased_byte, data_limit, up_to_8, WalkLaws, item_at}
use Rattle.fv_base.specs.declared.flash.Polarity.{Polarity}
use Rattle.fv_file.specs.Words.{file_sum_for, file_head_of}
use Rattle.fv_file.proofs.Laws.{cell_read, header_least}
use Rattle.fv_tree.specs.Words.{FileMeaning, File, file_name_of, attributes_of, content_of, data_len_of, files_from, file_kind_of, IsReadFile, Stream}
use Rattle.fv_tree.specs.Words.{volumes_in_file}
use Rattle.fv_canon.specs.inner.ImageOf.{stored_of, stored_file, written_data, starts_in, files_bytes}
use Rattle.fv_canon.specs.Words.{BeginsWithStarts, IsData, size_for, stored_bytes, gap_bytes}
use Rattle.fv_canon.proofs.ImageParts.{TakesFront}
use Rattle.fv_canon.proofs.WrittenImageLaws.{data_made, streams_made}
use Rattle.fv_placement.proofs.Laws.{follow_length}
use Rattle.fv_canon.proofs.VolumeImageLaws.{data_again, streams_again}
use Rattle.fv_canon.specs.inner.FileWalks.{ArePlaced}

-- ---- a file
pub file_laid : (m : FileMeaning) (starts : List ℕ) → IsReadFile m → BeginsWithStarts (volumes_in_file m) starts
    → IsData (content_of m) (written_data (content_of m) starts) × (length (written_data (content_of m) starts) ≡ data_len_of m)
file_laid (File name kind attributes content) starts (n, l, f, (system, p, b, small, most, cell), (named, kinds, bits, is)) begins =
    let bytes = (cell_read system p f.offset f.head f.payload b small cell).payload in
    let image = data_made (Stream n) (streams_made n) kind content f.payload starts bytes is begins in
    (image, (data_again n kind (streams_again n) content f.payload (written_data content starts) bytes is image).2)

-- the bytes of the file are its header, for the length that the layout assumed, and then its data
pub stored_is : (p : Polarity) (m : FileMeaning) (starts : List ℕ) → length (written_data (content_of m) starts) ≡ data_len_of m
    → stored_bytes p (stored_file m starts) ≡ file_head_of (file_name_of m) (file_kind_of m) (record { 0 = attributes_of m })
    (data_len_of m) (file_sum_for (attributes_of m) (written_data (content_of m) starts)) p ++ written_data (content_of m) starts
unfolding stored_bytes
stored_is p (File name kind attributes content) starts long = grind (arith, common_steps)

-- ---- the walk over the files

-- facts about the file with the start s, after the edge e
pub record Here (total e : ℕ) (f : FileMeaning) (s : ℕ) : Type 0 where
  pub low : e ≤ s
  pub apart : (s - e ≡ 0) ⊎ (24 ≤ s - e)
  pub multiple : (s - e) % 8 ≡ 0
  pub most : data_len_of f ≤ data_limit
  pub ends : s + size_for (data_len_of f) ≤ total
  pub next : up_to_8 (s + size_for (data_len_of f)) ≤ total

here_is : (total e : ℕ) (f : FileMeaning) (fs : List FileMeaning) (s : ℕ) (ss : List ℕ) → ArePlaced total e (f ∷ fs) (s ∷ ss)
    → Here total e f s
here_is total e f fs s ss placed = grind (arith, common_steps, header_least) steps 400000

-- the files after this file are placed from the first multiple of 8 at or after the end of this file
pub placed_on : (total e : ℕ) (f : FileMeaning) (fs : List FileMeaning) (s : ℕ) (ss : List ℕ) → ArePlaced total e (f ∷ fs) (s ∷ ss)
    → ArePlaced total (up_to_8 (s + size_for (data_len_of f))) fs ss
placed_on total e f fs s ss placed = grind (arith, common_steps, here_is)

-- the file at a place of the walk
pub record AtFile (total e : ℕ) (fs : List FileMeaning) (own : List ℕ) (i : ℕ) (f : FileMeaning) : Type 0 where
  pub files : drop i fs ≡ f ∷ drop (i + 1) fs
  pub starts : drop i own ≡ get_or own i 0 ∷ drop (i + 1) own
  pub placed : ArePlaced total e (f ∷ drop (i + 1) fs) (get_or own i 0 ∷ drop (i + 1) own)
  pub here : Here total e f (get_or own i 0)

pub at_file : (total e : ℕ) (fs : List FileMeaning) (own : List ℕ) (i : ℕ) (f : FileMeaning) → i < length fs → f ≡ get_or fs i f
    → ArePlaced total e (drop i fs) (drop i own) → AtFile total e fs own i f
at_file total e fs own i f l is placed =
    let files = item_at fs i f l is in
    let less : i < length own = grind (arith, common_steps, follow_length, length-map, length-drop) in
    let starts = drop_more own i 0 less in
    let both = rw (files, starts) at placed in
    record {
      files = files;
      starts = starts;
      placed = both;
      here = here_is total e f (drop (i + 1) fs) (get_or own i 0) (drop (i + 1) own) both;
    }

-- the bytes that are left at a file are its gap, the file and its filler, and then the files after it
pub walk_goes : (p : Polarity) (total e : ℕ) (fs : List FileMeaning) (own : List ℕ) (i : ℕ) (f : FileMeaning) (starts : List ℕ)
    → AtFile total e fs own i f → length (written_data (content_of f) starts) ≡ data_len_of f
    → files_bytes p total e (stored_of (files_from (drop i fs)) starts) (drop i own)
    ≡ (gap_bytes p (get_or own i 0 - e) ++ (stored_bytes p (stored_file f starts)
    ++ replicate (up_to_8 (get_or own i 0 + size_for (data_len_of f)) - (get_or own i 0 + size_for (data_len_of f))) (erased_byte p)))
    ++ files_bytes p total (up_to_8 (get_or own i 0 + size_for (data_len_of f)))
    (stored_of (files_from (drop (i + 1) fs)) (drop (starts_in (volumes_in_file f)) starts)) (drop (i + 1) own)
walk_goes p total e fs own i (File name kind attributes content) starts at long = rw (at.files, at.starts, long) (simp append_assoc)

-- if no file is left, erased bytes up to the end of the volume complete the whole
pub files_end : {S : Type 0} (takes : S → List ℕ → S → Type 0) → WalkLaws takes
    → (p : Polarity) (total edge : ℕ) (fs : List FileMeaning) (own rest : List ℕ) (i : ℕ) (s t u : S) (whole : List ℕ) → length fs ≤ i
    → TakesFront takes s t whole (files_bytes p total edge (stored_of (files_from (drop i fs)) rest) (drop i own))
    → takes t (replicate (total - edge) (erased_byte p)) u → takes s whole u
files_end takes laws p total edge fs own rest i s t u whole end f filled = grind (arith, common_steps, drop_all)
