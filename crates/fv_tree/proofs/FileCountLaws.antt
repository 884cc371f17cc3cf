-- A volume has at most as many files as bytes (`volume_files_few`), and fewer than 2 ^ 32 files (`few_of`).
use Rattle.std.proofs.Common.{◌≡◌, ◌≤◌, ◌<◌, ℕ, ◌^◌, [], ◌∷◌, List, length, drop, refl, ap, arith, length-drop}
use Rattle.std.proofs.lemmas.List.Sums.{count_by-le-length, length-filter}
use Rattle.fv_file.specs.Words.{CellForm, Valid}
use Rattle.fv_file.proofs.Laws.{cells_few}
use Rattle.fv_head.proofs.Laws.{front_lies}
use Rattle.fv_tree.specs.Words.{Pairwise, Stream, Denotes, MeansFile, IsMeaning, Meaning, files_of, head_of, FileForm, files_in, current_in}

-- cells contain at most as many files as there are cells
pub files_few : (cs : List CellForm) → length (files_in cs) ≤ length cs
files_few [] = omega arith
files_few (Valid at head payload ∷ cs) = omega (arith, files_few cs)
files_few (_ ∷ cs) = omega (arith, files_few cs)

pub current_few : (fs : List FileForm) → length (current_in fs) ≤ length fs
current_few fs = omega (arith, length-filter {X = FileForm}, count_by-le-length {X = FileForm})

pairs_length : {A B : Type 0} (R : A → B → Type 0) (xs : List A) (ys : List B) → Pairwise R xs ys → length ys ≡ length xs
pairs_length R [] [] p = refl
pairs_length R (x ∷ xs) (y ∷ ys) p = omega (arith, pairs_length R xs ys p.1)
pairs_length R _ _ p = absurd p

pub volume_files_few : (n : ℕ) (b : List ℕ) (m : Meaning) → Denotes n b m → length (files_of m) ≤ length b
volume_files_few n b m d =
    let cells = cells_few d.extent.file_system d.extent.polarity d.extent.first d.cells (drop d.extent.first b) d.tiles in
    let pairs = pairs_length (MeansFile (Stream n)) d.files (files_of m) d.meanings in
    omega (arith, cells, length-drop d.extent.first b, files_few d.cells, current_few (files_in d.cells), ap length d.current.files_are, pairs)

pub few_of : (m : Meaning) → IsMeaning m → length (files_of m) < 2 ^ 32
few_of m (n, low, b, small, d) = omega (arith, volume_files_few n b m d, d.length_is, (front_lies b (head_of m) d.extent d.begins).limit)
