-- Where the files of a volume, and of the volumes inside it, lie in the canonical image.
use Rattle.std.specs.Prelude.{ℕ, List, map}
use Rattle.std.specs.List.{AllByRecursion}
use Rattle.std.specs.Str.{bytes_eq}
use Rattle.fv_base.specs.Words.{alignment_of, bytes_of}
use Rattle.fv_head.specs.Words.{first_edge}
use Rattle.fv_tree.specs.Words.{Meaning, FileMeaning, head_of, files_of, length_of, data_len_of, file_name_of}
use Rattle.fv_tree.specs.Words.{attributes_of, top_name, Inside, volumes_in}
use Rattle.fv_placement.specs.Words.{IsFirstPlacement}
use Rattle.fv_placement.specs.declared.first_placement.PlacementItem.{PlacementItem}
use Rattle.fv_canon.specs.StoredFiles.{head_len_for, size_for}

-- the properties of a file on which its placement depends. `placement_items` lists them for each of a volume's own files
abbrev pub placement_item : FileMeaning → PlacementItem
placement_item f = record {
  header = head_len_for (data_len_of f);
  size = size_for (data_len_of f);
  alignment = alignment_of (attributes_of f);
  top = bytes_eq (bytes_of (file_name_of f)) top_name;
}

abbrev pub placement_items : Meaning → List PlacementItem
placement_items m = map placement_item (files_of m)

-- the starts are the first placement of the volume's own files
abbrev pub AreStarts : Meaning → List ℕ → Type 0
AreStarts m starts = IsFirstPlacement (length_of m) (first_edge (head_of m) (head_of m).ext) (placement_items m) starts

-- ---- at every level

-- the volume's own files can be placed
abbrev pub IsPlaced : Inside → Type 0
IsPlaced v = (starts : List ℕ) × AreStarts v.volume starts

-- a volume fits if its own files, and the files of each volume inside it, can be placed
abbrev pub Fits : Meaning → Type 0
Fits m = AllByRecursion IsPlaced (volumes_in m)
