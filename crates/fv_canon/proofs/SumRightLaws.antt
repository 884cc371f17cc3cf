-- The checksums of an image are right: the checksum of the volume header, and the checksums of each file and pad after
-- it. The steps:
-- 1. If cells tile bytes, and the file checksum of each pad is 0xAA, each checksum in the cells is right (`cell_sums`,
--    `tiles_sums`).
-- 2. The file checksum of the pad that contains the extended header is 0xAA too. So cells of this kind tile all bytes
--    after the header (`rest_summed`).
-- 3. So all checksums of an image are right (`sums_are_right`).
use Rattle.std.proofs.Common.{◌≡◌, ◌+◌, ◌-◌, ℕ, [], ◌∷◌, ◌++◌, List, length, take, drop, replicate, refl, sym, ap, ◌∙◌, arith}
use Rattle.fv_base.proofs.Laws.{common_steps, AllByRecursion, erased_byte, append_assoc, slice_index, Option, None, Some, drop-drop, drop_at, take_at}
use Rattle.fv_base.specs.declared.flash.FileSystem.{FileSystem}
use Rattle.fv_base.specs.declared.flash.Polarity.{Polarity}
use Rattle.fv_file.specs.Words.{CellForm, Valid, Pad, IsCell, IsFilled, Tiles, offset_of, header_sum_of, pad_fields, pad_head_of}
use Rattle.fv_file.specs.declared.head.FileHead.{FileHead}
use Rattle.fv_head.specs.Words.{Extension, IfRead, extent_of, canonical_end, first_edge, ext_len, ext_spelled, HeadFields, BeginsVolume}
use Rattle.fv_head.specs.Words.{header_len_of, canonical_head, polarity_of}
use Rattle.fv_head.proofs.Laws.{ext_again, ext_len_most, length-canonical}
use Rattle.fv_tree.specs.Words.{Volume}
use Rattle.fv_canon.specs.Words.{CellSums, SumsAreRight, ext_pad, used_size}
use Rattle.fv_canon.specs.inner.ImageOf.{files_bytes}
use Rattle.fv_canon.proofs.CellLaws.{pad_cell}
use Rattle.fv_canon.proofs.PlacedBytesLaws.{first_is, length-ext_pad, volume_shows}
use Rattle.fv_canon.proofs.StoredTilingLaws.{PadFixed, body_tiles, cell_tiles}
use Rattle.fv_canon.proofs.VolumeImageLaws.{known, image_front, streams_again}

-- ---- cells that tile bytes

-- the header checksum of a file or a pad is right
header_sum : (system : FileSystem) (p : Polarity) (head : FileHead) (payload x b rest : List ℕ) → IsFilled system p head payload x
    → b ≡ x ++ rest → header_sum_of (take head.header_len b) ≡ 0
header_sum system p head payload x b rest filled is = grind (arith, common_steps, append_assoc, take_at)

-- the checksums of a cell are right where the image contains the cell
cell_sums : (system : FileSystem) (p : Polarity) (c : CellForm) (x rest image : List ℕ) → IsCell system p c x → PadFixed c
    → drop (offset_of c) image ≡ x ++ rest → CellSums image c
cell_sums system p (Valid at head payload) x rest image (filled, alive, sound) fixed is =
    (header_sum system p head payload x (drop at image) rest filled is, sound.file_sum)
cell_sums system p (Pad at head payload) x rest image (filled, alive, kind) fixed is =
    (header_sum system p head payload x (drop at image) rest filled is, fixed)
cell_sums system p c x rest image cell fixed is = tt

tiles_sums : (system : FileSystem) (p : Polarity) (at : ℕ) (cells : List CellForm) (b image : List ℕ) → Tiles system p at cells b
    → AllByRecursion PadFixed cells → drop at image ≡ b → AllByRecursion (CellSums image) cells
tiles_sums system p at [] b image tiles fixed is = tt
tiles_sums system p at (c ∷ cs) b image (x, rest, text, cell, place, last, more) fixed is = (
  cell_sums system p c x rest image cell fixed.0 (ap (λ (n : ℕ). drop n image) place ∙ is ∙ text),
  tiles_sums system p (at + length x) cs rest image more fixed.1 (sym (drop-drop (length x) at image)
      ∙ ap (drop (length x)) (is ∙ text) ∙ drop_at x rest (length x) refl),
)

-- ---- the pad that contains the extended header

-- cells tile the bytes, and the file checksum of each pad is 0xAA
abbrev Summed : FileSystem → Polarity → ℕ → List ℕ → Type 0
Summed system p at b = (cells : List CellForm) × Tiles system p at cells b × AllByRecursion PadFixed cells

-- after the header come the pad with the extended header, if there is one, and then the files. If cells tile the files,
-- and the file checksum of each pad is 0xAA, the same is true of all bytes after the header
rest_summed : (system : FileSystem) (p : Polarity) (h : HeadFields) (x : Option Extension) (used : ℕ) (files : List ℕ) → IfRead x
    → Summed system p (first_edge h x) files
    → Summed system p (header_len_of h) (ext_pad p x used ++ (replicate (first_edge h x - canonical_end h x) (erased_byte p) ++ files))
unfolding ext_pad
rest_summed system p h None used files read behind = grind (arith, common_steps) steps 400000
rest_summed system p h (Some x) used files read (cells, tiles, fixed) =
    let size : ℕ = 24 + ext_len x in
    let pad : CellForm = Pad (header_len_of h) (pad_fields size (slice_index (pad_head_of size p) 16)) (ext_spelled x used) in
    let long = length-ext_pad p h (Some x) used read in
    let tiled = cell_tiles system p (header_len_of h) (canonical_end h (Some x)) pad (ext_pad p (Some x) used) files cells (first_is h None).1 long refl refl
    (λ filler few multiple. pad_cell system p size (ext_spelled x used) filler (omega (arith, ext_len_most x read)) (omega (arith, (ext_again x used read).1)) few
    (omega (arith, long, multiple)) (header_len_of h)) tiles in
    (pad ∷ cells, tiled, (refl, fixed))

-- ---- the image

pub sums_are_right : SumsAreRight
sums_are_right (Volume h files) image (n, most, b, small, d) (stored, starts, are, placed, shows) =
    let p : Polarity = polarity_of h.attributes in
    let first : ℕ = first_edge h h.ext in
    let used : ℕ = used_size first stored starts in
    let k = (known n (streams_again n) h files b small d stored starts are placed).writable in
    let front : BeginsVolume h (extent_of h first) image = image_front h stored starts image k shows in
    let body : List ℕ = files_bytes p h.length first stored starts in
    let rest : List ℕ = ext_pad p h.ext used ++ (replicate (first - canonical_end h h.ext) (erased_byte p) ++ body) in
    let text : drop (header_len_of h) image ≡ rest =
    ap (drop (header_len_of h)) (volume_shows h stored starts image k shows)
    ∙ drop_at (canonical_head h) rest (header_len_of h) (length-canonical h k.read) in
    let tiled = body_tiles h.file_system p h.length first stored starts k.multiple (first_is h h.ext).1 k.files k.follow in
    let (cells, tiles, fixed) = rest_summed h.file_system p h h.ext used body k.ext (tiled.cells, tiled.tiles, tiled.fixed) in
    (extent_of h first, front, front.head.sum, (cells, rw text tiles, tiles_sums h.file_system p (header_len_of h) cells rest image tiles fixed text))
