-- In the walk over the rows of a volume, the starts that are left begin with the starts of the files of the volumes
-- that are left. The steps:
-- 1. This remains true after the row of a volume (`volume_next`). At the row of a file, the starts begin with the
--    starts of the files of the volumes in this file (`file_next`).
-- 2. A layout covers all rows of a volume (`layout_covers`).
use Rattle.std.proofs.Common.{◌≡◌, ◌∙◌, ◌+◌, ℕ, List, ◌∷◌, ◌++◌, drop, ap}
use Rattle.fv_canon.specs.Words.{BeginsWithStarts, AreAllStarts}
use Rattle.fv_canon.proofs.PartLengthLaws.{begin_all}
use Rattle.fv_canon.proofs.VolumeListLaws.{begins_level, begins_split}
use Rattle.fv_tree.specs.Words.{Inside, Meaning, Volume, FileMeaning, File, content_of, volumes_in, volumes_in_content, volumes_in_files}
use Rattle.fv_canon.specs.declared.image_digests.ImageDigests.{ImageDigests}
use Rattle.fv_canon.specs.inner.Digests.{Covers}
use Rattle.fv_rows.specs.Words.{VolumeNode, FileNode, TreeRow, part_node, row_of, tree_rows}
use Rattle.fv_rows.specs.declared.tree_walk.Row.{Row}
use Rattle.fv_rows.specs.inner.RowVolumes.{Followed, volumes_of}
use Rattle.fv_rows.proofs.Laws.{files_volumes, content_volumes, rows_followed, tree_volumes}

-- ---- the next row

-- if the next row is a volume, the starts begin with the starts of the files of this volume and of the volumes inside
-- it. Once the starts of the volume's own files are taken, the starts cover the rows that follow
pub volume_next : (r : Row) (v : Meaning) (rest : List TreeRow) (starts : List ℕ) → part_node r.part ≡ VolumeNode v
    → Followed (row_of r ∷ rest) × BeginsWithStarts (volumes_of (row_of r ∷ rest)) starts
    → (more : List Inside) × BeginsWithStarts (volumes_in v) starts × BeginsWithStarts (volumes_in v ++ more) starts
    × ((after : List ℕ) → BeginsWithStarts (drop 1 (volumes_in v) ++ more) after → BeginsWithStarts (volumes_of rest) after)
volume_next r (Volume h files) rest starts is (((more, follow), others), begins) =
    let volumes = ap volumes_of (rw is at follow) ∙ files_volumes (r.depth + 1) r.nesting 0 files more in
    let here = rw (begins_level r.nesting (volumes_in (Volume h files)) (volumes_of more) starts) at (rw (is, volumes) at begins) in (
      volumes_of more,
      (begins_split (volumes_in (Volume h files)) (volumes_of more) starts here).0,
      here,
      λ after h. rw (volumes, begins_level r.nesting (volumes_in_files files) (volumes_of more) after) h,
    )

-- if the next row is a file, the starts begin with the starts of the files of the volumes in this file
pub file_next : (r : Row) (f : FileMeaning) (rest : List TreeRow) (starts : List ℕ) → part_node r.part ≡ FileNode f
    → Followed (row_of r ∷ rest) × BeginsWithStarts (volumes_of (row_of r ∷ rest)) starts → BeginsWithStarts (volumes_in_content (content_of f)) starts
file_next r (File name kind attributes content) rest starts is (((more, follow), others), begins) =
    let volumes = ap volumes_of (rw is at follow) ∙ content_volumes (r.depth + 1) r.nesting content more in
    let level = begins_level r.nesting (volumes_in_content content) (volumes_of more) starts in
    (begins_split (volumes_in_content content) (volumes_of more) starts (rw level at (rw (is, volumes) at begins))).0

-- ---- all rows

-- if the starts are a layout of a volume, the digests with these starts cover all rows of the volume
pub layout_covers : (m : Meaning) (starts : List ℕ) (d : ImageDigests) → d.starts.now ≡ starts → AreAllStarts m starts
    → Covers (λ (e : ImageDigests). e.starts.now) d (tree_rows m)
layout_covers m starts d is laid = (rows_followed m, rw (is, tree_volumes m) (begin_all (volumes_in m) starts laid))
