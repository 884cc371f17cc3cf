-- In an image the data of each file are aligned, and the data of each pad are erased. The steps:
-- 1. The bytes of an image have at most one header and one tiling by cells, so the cells that are read are the cells
--    that were written.
-- 2. Written files have aligned data, and written pads have erased data.
use Rattle.std.proofs.Common.{◌≡◌, ℕ, List, drop}
use Rattle.std.specs.List.{AllByRecursion}
use Rattle.fv_base.specs.declared.flash.Polarity.{Polarity}
use Rattle.fv_file.specs.Words.{CellForm, Tiles}
use Rattle.fv_file.proofs.Laws.{only_one}
use Rattle.fv_head.specs.Words.{BeginsVolume, extent_of, first_edge, polarity_of}
use Rattle.fv_head.specs.declared.extent.Extent.{Extent}
use Rattle.fv_head.proofs.Laws.{one_front}
use Rattle.fv_tree.specs.Words.{IsMeaning, Meaning, Volume, head_of}
use Rattle.fv_canon.specs.Words.{DataAligned, DataAreAligned, IsImage}
use Rattle.fv_canon.proofs.StoredTilingLaws.{PadErased}
use Rattle.fv_canon.proofs.VolumeImageLaws.{known, image_front, image_tiled, streams_again}

-- ---- 1. one tiling

cells_are : (m : Meaning) (image : List ℕ) (e : Extent) (cells : List CellForm) → IsMeaning m → IsImage m image
    → BeginsVolume (head_of m) e image → Tiles e.file_system e.polarity e.first cells (drop e.first image)
    → DataAligned cells × AllByRecursion (PadErased e.polarity) cells
cells_are (Volume h files) image e cells (n, most, b, small, d) (stored, starts, are, placed, shows) front tiles =
    let first : ℕ = first_edge h h.ext in
    let k = (known n (streams_again n) h files b small d stored starts are placed).writable in
    let extents : e ≡ extent_of h first = (one_front image h h e (extent_of h first) front (image_front h stored starts image k shows)).1 in
    let tiled = image_tiled h stored starts image k shows in
    let p : Polarity = polarity_of h.attributes in
    let same : tiled.cells ≡ cells = only_one h.file_system p first (drop first image) cells tiled.cells (rw extents at tiles) tiled.tiles in
    (rw (← same) tiled.aligned, rw (extents, ← same) tiled.erased)

-- ---- 2. the bytes that were written

pub data_are_aligned : DataAreAligned
data_are_aligned m image e cells is own front tiles = (cells_are m image e cells is own front tiles).0

-- each pad from the first edge on has erased data
pub pads_erased : (m : Meaning) (image : List ℕ) (e : Extent) (cells : List CellForm) → IsMeaning m → IsImage m image
    → BeginsVolume (head_of m) e image → Tiles e.file_system e.polarity e.first cells (drop e.first image)
    → AllByRecursion (PadErased e.polarity) cells
pads_erased m image e cells is own front tiles = (cells_are m image e cells is own front tiles).1
