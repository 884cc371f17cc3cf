-- The facts that the layout uses about the files of a volume that was read: their data are within the limit of a
-- volume's length (`data_short`), and the files are lawful items of the volume (`parts_fit`).
use Rattle.std.proofs.Common.{◌≡◌, ◌≤◌, ◌<◌, ◌+◌, ◌*◌, ◌/◌, ◌%◌, ◌^◌, ℕ, [], ◌∷◌, zero, suc, Bool, true, List, length, drop, refl, ◌∙◌, arith}
use Rattle.fv_base.proofs.Laws.{common_steps, length-drop, All, All-from_recursion, map, nat_le, slice_index, AllByRecursion, alignment_of, and_split}
use Rattle.fv_base.proofs.Laws.{volume_limit}
use Rattle.std.proofs.lemmas.Bool.{leb-true}
use Rattle.std.specs.List.{list_all}
use Rattle.fv_base.specs.Words.{IsAlignment}
use Rattle.fv_base.specs.declared.flash.FileSystem.{FileSystem}
use Rattle.fv_file.specs.Words.{file_header_len, needs_large}
use Rattle.fv_head.proofs.Laws.{front_lies}
use Rattle.fv_placement.specs.Words.{IsLawfulItem}
use Rattle.fv_tree.proofs.Laws.{content_long}
use Rattle.fv_tree.specs.Words.{MeansFile, IsMeaning, Pairwise, Stream, IsReadFile, FileForm, Meaning, Volume, FileMeaning, File, attributes_of}
use Rattle.fv_tree.specs.Words.{data_len_of, files_list, files_of, head_of}
use Rattle.fv_canon.specs.Words.{placement_item}
use Rattle.fv_file.proofs.Laws.{cell_read}
use Rattle.fv_canon.proofs.ReadLaws.{FileIsAccepted}
use Rattle.fv_canon.proofs.VolumeImageLaws.{files_read, first_behind}

-- the data of a file that was read, with a short header, are within the limit of a volume's length
pub data_short : (m : FileMeaning) → IsReadFile m → 24 + data_len_of m ≤ volume_limit
data_short (File name kind attributes content) (n, few, f, (system, p, b, small, most, cell), is) =
    omega (arith, (cell_read system p f.offset f.head f.payload b small cell).within, content_long n f name kind attributes content is, most)

-- ---- the alignment of a file is a power of two

-- the exponents of the alignments
abbrev exponents : List ℕ
exponents = 0 ∷ 4 ∷ 7 ∷ 9 ∷ 10 ∷ 12 ∷ 15 ∷ 16 ∷ 17 ∷ 18 ∷ 19 ∷ 20 ∷ 21 ∷ 22 ∷ 23 ∷ 24 ∷ []

-- if all exponents in the list are at most 24, each power of two with one of these exponents is an alignment
power_at : (ks : List ℕ) (i : ℕ) → list_all (λ k. nat_le k 24) ks ≡ true → i < length ks → IsAlignment (slice_index (map (λ k. 2 ^ k) ks) i)
power_at [] i small l = absurd (omega arith)
power_at (k ∷ ks) zero small l = (k, leb-true k 24 (and_split (nat_le k 24) (list_all (λ j. nat_le j 24) ks) small).0, refl)
power_at (k ∷ ks) (suc i) small l = power_at ks i (and_split (nat_le k 24) (list_all (λ j. nat_le j 24) ks) small).1 (omega (arith, l))

alignment_power : (attributes : ℕ) → IsAlignment (alignment_of attributes)
alignment_power a = power_at exponents (a / 8 % 8 + 8 * (a / 2 % 2)) refl (omega arith)

-- ---- the items of a volume

pub head_most : (large : Bool) → file_header_len large ≤ 32
head_most large = grind arith

-- a file is a lawful item of each volume that has room for a header of 32 bytes and the file's data
part_is : (total : ℕ) (m : FileMeaning) → 32 + data_len_of m ≤ total → IsLawfulItem total (placement_item m)
part_is total m l =
    grind (arith, common_steps, head_most (needs_large (data_len_of m)), alignment_power (attributes_of m)) steps 400000

-- files that were read from at most `limit` bytes are lawful items of a volume that has at least 8 bytes more
are_parts : (n : ℕ) (system : FileSystem) (limit total : ℕ) (fs : List FileForm) (ms : List FileMeaning)
    → ((k : ℕ) → 24 + k ≤ limit → 32 + k ≤ total) → AllByRecursion (FileIsAccepted system limit) fs → Pairwise (MeansFile (Stream n)) fs ms
    → AllByRecursion (IsLawfulItem total) (map placement_item ms)
are_parts n system limit total [] [] room reads pairs = tt
are_parts n system limit total (f ∷ fs) (File name kind attributes content ∷ ms) room reads pairs =
    let long = content_long n f name kind attributes content pairs.0 in
    let m : FileMeaning = File name kind attributes content in
    (part_is total m (room (data_len_of m) (omega (arith, reads.0.within, long))), are_parts n system limit total fs ms room reads.1 pairs.1)
are_parts n system limit total fs ms room reads pairs = absurd pairs

-- the files of a volume that was read are lawful items of this volume
pub parts_fit : (m : Meaning) → IsMeaning m → All (IsLawfulItem (head_of m).length) (map placement_item (files_of m))
parts_fit (Volume h files) (n, few, b, small, d) =
    let behind = first_behind h.ext d.extent b d.begins.ext in
    All-from_recursion (IsLawfulItem h.length) (map placement_item (files_list files))
    (are_parts n h.file_system (length (drop d.extent.first b)) h.length d.files (files_list files)
    (λ k l. omega (arith, length-drop d.extent.first b, d.length_is ∙ d.begins.length_is, (front_lies b h d.extent d.begins).least, behind, l))
    (files_read n h files b small d) d.meanings)
