-- A volume that bytes begin with consists of its header and its files. The steps:
-- 1. A header and files make a volume (`made`), and a volume has a header and files (`front_of`, `has_files`).
-- 2. The first fault of a header is the first fault of the bytes (`head_first`).
-- 3. A body that is opened is exactly one volume (`opened_whole`).
use Rattle.std.proofs.Common.{◌≡◌, ◌≤◌, ◌⊎◌, ℕ, [], ◌∷◌, ◌≢◌, List, length, take, refl, sym, ap, ◌∙◌, arith, inl, inr, length-take-le}
use Rattle.fv_base.proofs.Laws.{take_all, IsFirstFault, First, out_of_memory, take-take_le}
use Rattle.fv_base.specs.declared.fault.Fault.{Fault}
use Rattle.fv_base.specs.declared.fault.Place.{Place}
use Rattle.fv_head.specs.Words.{HeadFields, BeginsVolume, head_checks, volume_len_at}
use Rattle.fv_head.specs.declared.extent.Extent.{Extent}
use Rattle.fv_head.proofs.Laws.{front_extent, front_same, one_front}
use Rattle.fv_tree.specs.Words.{AreFilesOf, Stream, StreamRelation, VolumeOver, Denotes, MeansFile, Opens, Pairwise, FileForm, moved_fault, InVolume, Meaning}
use Rattle.fv_tree.specs.Words.{Volume, FileMeaning, files_list, head_of, files_of, files_from}

-- the volume has some files, and the list is the meanings of these files, in order
abbrev pub HasFiles : StreamRelation → Extent → List ℕ → List FileMeaning → Type 0
HasFiles is_stream e volume ms = (files : List FileForm) × AreFilesOf e volume files × Pairwise (MeansFile is_stream) files ms

-- `files_list` undoes `files_from`
pub files_list_back : (fs : List FileMeaning) → files_list (files_from fs) ≡ fs
files_list_back [] = refl
files_list_back (f ∷ fs) = ap (λ l. f ∷ l) (files_list_back fs)

-- ---- a header and files make a volume

pub made : (n : ℕ) (b : List ℕ) (h : HeadFields) (e : Extent) (ms : List FileMeaning) → BeginsVolume h e b
    → HasFiles (Stream n) e (take e.length b) ms → Denotes n (take e.length b) (Volume h (files_from ms))
made n b h e ms front (files, stand, pairs) =
    let long : length (take e.length b) ≡ e.length = length-take-le e.length b front.is_within in
    record {
      extent = e;
      begins = front_same b (take e.length b) h e front (omega (arith, long)) (take-take_le e.length e.length b (omega arith));
      length_is = long;
      cells = stand.cells;
      tiles = stand.tiles;
      files = files;
      current = stand.current;
      meanings = rw files_list_back pairs;
    }

-- ---- a volume has a header and files

-- bytes that begin with a volume begin with its header, which states the length of the volume
pub front_of : (n k : ℕ) (b : List ℕ) (m : Meaning) → k ≤ length b → (d : Denotes n (take k b) m) → BeginsVolume (head_of m) d.extent b
    × (d.extent.length ≡ k)
front_of n k b m within d =
    let same : d.extent.length ≡ k = sym d.length_is ∙ length-take-le k b within in
    (front_same (take k b) b (head_of m) d.extent d.begins (omega (arith, same, within)) (rw (same, take-take_le k k b (omega arith))), same)

pub has_of : (S : StreamRelation) (b : List ℕ) (m : Meaning) → (d : VolumeOver S b m) → HasFiles S d.extent b (files_of m)
has_of S b (Volume h fs) d = (d.files, record { cells = d.cells; tiles = d.tiles; current = d.current }, d.meanings)

-- a volume that bytes begin with has the header that the bytes begin with, its length, and files in the body
pub has_files : (n k : ℕ) (b : List ℕ) (m : Meaning) (h : HeadFields) (e : Extent) → BeginsVolume h e b → k ≤ length b
    → Denotes n (take k b) m → (head_of m ≡ h) × (k ≡ e.length) × HasFiles (Stream n) e (take e.length b) (files_of m)
has_files n k b m h e front within d =
    let other = front_of n k b m within d in
    let same = one_front b (head_of m) h d.extent e other.0 front in
    let len : k ≡ e.length = sym other.1 ∙ ap (λ (x : Extent). x.length) same.1 in
    (same.0, len, rw len at (rw same.1 at (has_of (Stream n) (take k b) m d)))

-- ---- faults of the header

pub head_first : (n : ℕ) (b : List ℕ) (f g : Fault) (at : Place) → (f ≡ out_of_memory) ⊎ IsFirstFault (head_checks b) f
    → f ≢ out_of_memory → g ≡ moved_fault at.offset at.depth f → InVolume First n g b at
head_first n b f g at (inl want) ne is = absurd (ne want)
head_first n b f g at (inr first) ne is = inl (f, first, is)

-- ---- an opened body is exactly one volume

pub opened_whole : (n r : ℕ) (b : List ℕ) (m : Meaning) → Opens b → r ≤ length b → Denotes n (take r b) m → Denotes n b m
opened_whole n r b m o within d =
    let f = front_of n r b m within d in
    let len : volume_len_at b ≡ d.extent.length = ap (λ (x : Extent). x.length) (front_extent b (head_of m) d.extent f.0).1 in
    rw (take_all r b (omega (arith, f.1, len, o.length_is))) at d
