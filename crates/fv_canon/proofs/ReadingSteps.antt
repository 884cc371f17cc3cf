-- From a computed reading of an input to the statement about it. The steps:
-- 1. A first fault of the header rejects the input (`header_rejects`). If the header has no fault, a first fault of the
--    body does (`body_rejects`), for example a fault of its first cell (`cell_rejects`).
-- 2. Cells whose checks hold tile a body (`tiled`), so bytes whose header and cells are read are a volume (`accepts`).
use Rattle.std.proofs.Common.{◌≡◌, ◌%◌, ◌&&◌, ℕ, ◌+◌, ◌∙◌, zero, suc, [], ◌∷◌, List, length, take, drop, refl, sym, ap, subst, arith, inl, inr}
use Rattle.fv_base.proofs.Laws.{true, false, Bool, nat_lt, replicate, Option, None, Some, append-nil, length-drop, length-take-le, take-append-drop}
use Rattle.fv_base.proofs.Laws.{First, IsBytes, depth_limit, outer_fault, erased_byte, all_are, all_are-true, all-all_are, bytes_le_bytes, first_is, not_first, and_split, ltb-true}
use Rattle.fv_base.proofs.Laws.{up_is_not_down, field, le, le_at, le_bytes, slice_index, take_all}
use Rattle.fv_base.specs.declared.fault.Fault.{Fault}
use Rattle.fv_base.specs.declared.fault.FaultKind.{FaultKind}
use Rattle.fv_base.specs.declared.fault.Place.{Place}
use Rattle.fv_base.specs.declared.flash.FileSystem.{FileSystem}
use Rattle.fv_base.specs.declared.flash.FileSystem.TheVariants.{Ffs2, Ffs3}
use Rattle.fv_base.specs.declared.flash.Polarity.{Polarity}
use Rattle.fv_base.specs.declared.guid.Guid.{Guid}
use Rattle.fv_base.specs.inner.Verdicts.{first_fault}
use Rattle.fv_base.specs.declared.fault.FaultKind.TheVariants as kinds
use Rattle.std.specs.Option.{is_none}
use Rattle.fv_file.specs.Words.{CellForm, Free, Tiles, cell_len, cell_checks, head_in, payload_at, state_at, state_of}
use Rattle.fv_file.specs.declared.state.FileState.TheVariants.{DataValid}
use Rattle.fv_file.specs.inner.CellVerdicts.{cell_in}
use Rattle.fv_file.proofs.Laws.{cell_stands}
use Rattle.fv_head.specs.Words.{BeginsVolume, Extension, HasExt, HeadFields, extent_of, head_checks, header_len_at, pairs_of, system_guid}
use Rattle.fv_head.specs.inner.HeadVerdicts.{extent_at}
use Rattle.fv_head.proofs.Laws.{front_decided, front_extent}
use Rattle.fv_head.specs.declared.extent.Extent.{Extent}
use Rattle.fv_section.specs.Words.{FrameForm, BeginsFrame}
use Rattle.fv_tree.specs.Words.{BodyFault, FileForm, InSection, InStream, IsFirstOfVolume, NamesFault, NoStoredTwins, TopAtEnd, body_at, current_in, data_at, files_in}
use Rattle.fv_tree.specs.Words.{group_kind, holds_sections, moved_fault, outermost, Accepted, FileMeanings, MeansFile, NoFiles, Pairwise, Stream, Volume, files_list}
use Rattle.fv_tree.proofs.Laws.{volume_refused}
use Rattle.fv_canon.proofs.RejectedInputLaws.{first_reads}
use Rattle.fv_canon.specs.Words.{Rejects, empty_volume, head, smallest_volume}

-- ---- bytes

-- numbers that are the bytes of a number are bytes
pub small : (b : List ℕ) → le_bytes (length b) (le b) ≡ b → IsBytes b
small b same = subst IsBytes same (bytes_le_bytes (length b) (le b))

-- bytes that have a first fault are rejected with it
rejects : (b : List ℕ) (e : Fault) → IsFirstOfVolume b e → Rejects b e
rejects b e first = elim (volume_refused b e (λ other. first)) [
  | inl memory ↦ absurd (first_reads b e kinds.OutOfMemory refl (inl first) (ap (λ (f : Fault). f.kind) memory))
  | inr bad ↦ inl bad
]

-- ---- the header

-- a fault at depth 0 is the same fault, moved to offset 0 and depth 0
stays : (kind : FaultKind) (at : ℕ) → outer_fault kind at ≡ moved_fault 0 0 (outer_fault kind at)
stays kind at = ap (outer_fault kind) (omega arith)

pub header_rejects : (b : List ℕ) (kind : FaultKind) (at : ℕ) → first_fault (head_checks b) ≡ Some (outer_fault kind at)
    → Rejects b (outer_fault kind at)
header_rejects b kind at is = rejects b _ (inl (_, first_is (head_checks b) _ is, stays kind at))

-- ---- the body

-- the extent of a volume of n bytes without an extended header
abbrev pub extent : ℕ → Extent
extent n = extent_of (head n None) 72

-- the header of a volume of FFS2 with this extent is read: no check of the header fails
pub record IsFrontOf (x : Extent) (b : List ℕ) : Type 0 where
  pub bytes : le_bytes (length b) (le b) ≡ b
  pub checks : first_fault (head_checks b) ≡ None
  pub file_system : field 16 16 (take (header_len_at b) b) ≡ system_guid Ffs2
  pub extent_is : extent_at Ffs2 b ≡ x

-- so the bytes begin with a volume of this extent
begun : (x : Extent) (b : List ℕ) → IsFrontOf x b → (h : HeadFields) × BeginsVolume h x b
begun x b is = elim (front_decided b (small b is.bytes)) [
  | inr (f, first) ↦ absurd (not_first (head_checks b) f first is.checks)
  | inl (e, h, front) ↦ let found = front_extent b h e front in (h, go found.0 h (subst (λ (y : Extent). BeginsVolume h y b) (sym found.1) front))
] where
  go : (s : FileSystem) (h : HeadFields) → BeginsVolume h (extent_at s b) b → BeginsVolume h x b
  go Ffs2 h front = subst (λ (y : Extent). BeginsVolume h y b) is.extent_is front
  go Ffs3 h front =
      let same : system_guid Ffs2 ≡ system_guid Ffs3 = sym is.file_system ∙ front.head.file_system ∙ ap system_guid (sym front.file_system) in
      absurd (omega (arith, ap (λ (l : List ℕ). slice_index l 0) same))

-- the body has a fault
pub body_rejects : (x : Extent) (b : List ℕ) (e : Fault) → IsFrontOf x b
    → BodyFault First depth_limit (InStream First depth_limit) x e (take x.length b) outermost → Rejects b e
body_rejects x b e is bad = let front = begun x b is in rejects b e (inr (front.0, x, front.1, bad))

-- the first cell of the body has a fault
pub cell_rejects : (x : Extent) (b : List ℕ) (kind : FaultKind) (at : ℕ) → IsFrontOf x b → nat_lt 0 (length (drop x.first (take x.length b))) ≡ true
    → all_are (erased_byte x.polarity) (drop x.first (take x.length b)) ≡ false
    → first_fault (cell_checks x.file_system x.polarity (x.first + 0) (drop x.first (take x.length b))) ≡ Some (outer_fault kind at)
    → Rejects b (outer_fault kind at)
cell_rejects x b kind at is some used fails =
    let body : List ℕ = drop x.first (take x.length b) in
    body_rejects x b _ is (inl (
      _,
      inl (record {
        cells = [];
        at = 0;
        tiled = refl;
        none_free = tt;
        inside = ltb-true 0 (length body) some;
        not_erased = λ all. up_is_not_down _ (all-all_are (erased_byte x.polarity) body all) used;
        fails = first_is _ _ fails;
      }),
      stays kind at,
    ))

-- ---- cells

-- the first n cells of the bytes at the offset `at`, and then a free cell if bytes are left
abbrev pub cells_by : ℕ → FileSystem → Polarity → ℕ → List ℕ → List CellForm
cells_by zero s p at [] = []
cells_by zero s p at (x ∷ r) = Free at (length (x ∷ r)) ∷ []
cells_by (suc n) s p at r =
    let c : CellForm = cell_in (state_of p (state_at r)) at r in
    c ∷ cells_by n s p (at + cell_len c) (drop (cell_len c) r)

-- the checks of these cells hold, and the bytes after them are erased
abbrev pub hold_by : ℕ → FileSystem → Polarity → ℕ → List ℕ → Bool
hold_by zero s p at r = all_are (erased_byte p) r
hold_by (suc n) s p at r =
    let len : ℕ = cell_len (cell_in (state_of p (state_at r)) at r) in
    is_none (first_fault (cell_checks s p at r)) && hold_by n s p (at + len) (drop len r)

none_is : (o : Option Fault) → is_none o ≡ true → o ≡ None
none_is None h = refl
none_is (Some f) h = cc

pub tiled : (n : ℕ) (s : FileSystem) (p : Polarity) (at : ℕ) (r : List ℕ) → length r % 8 ≡ 0 → hold_by n s p at r ≡ true
    → Tiles s p at (cells_by n s p at r) r
tiled zero s p at [] eighths h = refl
tiled zero s p at (x ∷ r) eighths h =
    (x ∷ r, [], sym (append-nil (x ∷ r)), (omega arith, all_are-true (erased_byte p) (x ∷ r) h, refl), refl, λ free. refl, refl)
tiled (suc n) s p at r eighths h =
    let c : CellForm = cell_in (state_of p (state_at r)) at r in
    let len : ℕ = cell_len c in
    let both = and_split _ _ h in
    let stands = cell_stands s p at r eighths (none_is _ both.0) in
    let long : length (take len r) ≡ len = length-take-le len r stands.within in
    let rest = tiled n s p (at + len) (drop len r) (omega (arith, length-drop len r, eighths, stands.multiple, stands.within)) both.1 in (
      take len r,
      drop len r,
      sym (take-append-drop len r),
      stands.cell,
      stands.place,
      λ free. absurd (up_is_not_down _ free stands.not_free),
      subst (λ (k : ℕ). Tiles s p (at + k) (cells_by n s p (at + len) (drop len r)) (drop len r)) (sym long) rest,
    )

-- ---- the files of a volume

-- the bytes after the header
abbrev pub body_of_extent : Extent → List ℕ → List ℕ
body_of_extent x b = drop x.first (take x.length b)

-- the valid files among the first n cells
abbrev pub files_by : ℕ → Extent → List ℕ → List FileForm
files_by n x b = files_in (cells_by n x.file_system x.polarity x.first (body_of_extent x b))

-- the header and the first n cells of the bytes are read, and the bytes after these cells are erased
pub record IsReadBy (n : ℕ) (x : Extent) (b : List ℕ) : Type 0 where
  pub front : IsFrontOf x b
  pub eighths : length (body_of_extent x b) % 8 ≡ 0
  pub cells : hold_by n x.file_system x.polarity x.first (body_of_extent x b) ≡ true

-- the file at the offset p, whose data are valid
abbrev pub file_at : ℕ → List ℕ → FileForm
file_at p b = record { offset = p; head = head_in DataValid (drop p b); payload = payload_at (drop p b) }

-- the files have a fault of their names
pub names_reject : (n : ℕ) (x : Extent) (b : List ℕ) (kind : FaultKind) (at : ℕ) → IsReadBy n x b
    → NamesFault First x.length (files_by n x b) (outer_fault kind at) → Rejects b (outer_fault kind at)
names_reject n x b kind at read bad =
    body_rejects x b _ read.front (inl (_, inr (_, tiled n _ _ _ _ read.eighths read.cells, bad), stays kind at))

-- the only file holds sections, and they have a fault
pub file_rejects : (n : ℕ) (x : Extent) (b : List ℕ) (e : Fault) (f : FileForm) → IsReadBy n x b
    → NoStoredTwins (files_by n x b) × TopAtEnd x.length (current_in (files_by n x b)) → current_in (files_by n x b) ≡ f ∷ []
    → holds_sections f.head.kind ≡ true → InStream First depth_limit e f.payload (data_at outermost f) → Rejects b e
file_rejects n x b e f read names only holds bad =
    body_rejects x b e read.front
    (inr (_, tiled n _ _ _ _ read.eighths read.cells, names, ([], f, [], only, ([], tt), (holds, bad))))

-- ---- groups

abbrev group : List ℕ → FrameForm
group body = record { offset = 0; kind = group_kind; extended = false; body = body }

-- a stream that consists of one group has the first fault of this group
one_group : (n : ℕ) (e : Fault) (k : ℕ) (body : List ℕ) (at : Place) → k ≡ 4 + length body → nat_lt k 256 ≡ true
    → InSection First n e (group body) at → InStream First n e (k ∷ 0 ∷ 0 ∷ 3 ∷ body) at
one_group n e k body at size short bad = inr (group body ∷ [], 0, ([], begins, refl, refl, omega arith), ([], group body, [], refl, ([], tt), bad)) where
  begins : BeginsFrame (group body) (k ∷ 0 ∷ 0 ∷ 3 ∷ body) []
  begins = record {
    head = k ∷ 0 ∷ 0 ∷ 3 ∷ [];
    is_header = record {
      header_length = refl;
      kind_is = refl;
      states = (omega (arith, size), λ long. omega (arith, size, long, ltb-true k 256 short));
    };
    text = ap (λ (l : List ℕ). k ∷ 0 ∷ 0 ∷ 3 ∷ l) (sym (append-nil body));
  }

-- the fault is in the body of the group
pub in_group : (n : ℕ) (e : Fault) (k : ℕ) (body : List ℕ) (at : Place) → k ≡ 4 + length body → nat_lt k 256 ≡ true
    → InStream First n e body (body_at at (group body)) → InStream First (suc n) e (k ∷ 0 ∷ 0 ∷ 3 ∷ body) at
in_group n e k body at size short bad = one_group (suc n) e k body at size short (inl (refl, bad))

-- the group is nested too deep
pub deep_group : (k : ℕ) (body : List ℕ) (at : Place) → k ≡ 4 + length body → nat_lt k 256 ≡ true
    → InStream First 0 (moved_fault at.offset at.depth (outer_fault kinds.Depth 0)) (k ∷ 0 ∷ 0 ∷ 3 ∷ body) at
deep_group k body at size short = one_group 0 _ k body at size short (inl refl, refl)

-- ---- volumes

-- the fields of `head` are read in the first 72 bytes
pub record IsHeadOf (length : ℕ) (b : List ℕ) : Type 0 where
  pub zero_vector : field 0 16 (take 72 b) ≡ replicate 16 0
  pub file_system : field 16 16 (take 72 b) ≡ system_guid Ffs2
  pub volume_length : le_at 32 8 (take 72 b) ≡ length
  pub attributes : le_at 44 4 (take 72 b) ≡ 0x4feff
  pub reserved : slice_index (take 72 b) 54 ≡ 0
  pub block_map : pairs_of (drop 56 (take 72 b)) ≡ (1, length) ∷ (0, 0) ∷ []

-- so the bytes begin with a volume that has these fields
begins : (n first : ℕ) (ext : Option Extension) (b : List ℕ) → IsFrontOf (extent_of (head n ext) first) b → IsHeadOf n b
    → HasExt ext (extent_of (head n ext) first) b
    → BeginsVolume (head n ext) (extent_of (head n ext) first) b
begins n first ext b is fields there =
    let front = (begun (extent_of (head n ext) first) b is).1 in
    let same = sym front.head.volume_length ∙ fields.volume_length in
    record {
      head = record {
        bytes = front.head.bytes;
        zero_vector = fields.zero_vector;
        file_system = fields.file_system;
        volume_length = fields.volume_length;
        signature = front.head.signature;
        attributes = fields.attributes;
        header_length = front.head.header_length;
        reserved = fields.reserved;
        revision = front.head.revision;
        block_map = fields.block_map;
        no_pair_of_zeros = (λ zeros. omega (arith, ap (λ (p : ℕ × ℕ). p.0) zeros), tt);
        sum = front.head.sum;
        multiple = front.head.multiple;
        least = front.head.least;
        most = front.head.most;
        makes_up = omega arith;
        volume_multiple = omega (arith, same, front.head.volume_multiple);
        volume_least = omega (arith, same, front.head.volume_least);
        volume_most = omega (arith, same, front.head.volume_most);
      };
      long_enough = front.long_enough;
      is_within = front.is_within;
      ext = there;
      length_is = refl;
      file_system = refl;
      polarity = refl;
    }

-- bytes whose header, cells and files are read are a volume
pub accepts : (n length_is first : ℕ) (ext : Option Extension) (ms : FileMeanings) (b : List ℕ)
    → IsReadBy n (extent_of (head length_is ext) first) b → IsHeadOf length_is b → HasExt ext (extent_of (head length_is ext) first) b
    → length b ≡ length_is
    → NoStoredTwins (files_by n (extent_of (head length_is ext) first) b)
    × TopAtEnd length_is (current_in (files_by n (extent_of (head length_is ext) first) b))
    → Pairwise (MeansFile (Stream depth_limit)) (current_in (files_by n (extent_of (head length_is ext) first) b)) (files_list ms)
    → Accepted b (Volume (head length_is ext) ms)
accepts n length_is first ext ms b read fields there long names meanings =
    let x : Extent = extent_of (head length_is ext) first in
    let cells : List CellForm = cells_by n x.file_system x.polarity first (body_of_extent x b) in
    let tiles = tiled n x.file_system x.polarity first (body_of_extent x b) read.eighths read.cells in (
      small b read.front.bytes,
      record {
        extent = x;
        begins = begins length_is first ext b read.front fields there;
        length_is = long;
        cells = cells;
        tiles = subst (λ (c : List ℕ). Tiles x.file_system x.polarity first cells (drop first c)) (take_all length_is b (omega (arith, long))) tiles;
        files = current_in (files_by n x b);
        current = record { no_twins = names.0; files_are = refl; top = names.1 };
        meanings = meanings;
      },
    )

-- ---- volumes without files

-- the GUID whose 16 bytes are all n
abbrev pub guid : ℕ → Guid
guid n = record { bytes = replicate 16 n }

pub smallest_read : Accepted smallest_volume (Volume (head 72 None) NoFiles)
unfolding all_are
smallest_read =
    accepts 0 72 72 None NoFiles smallest_volume (record { front = record { bytes = refl; checks = refl; file_system = refl; extent_is = refl }; eighths = refl; cells = refl })
    (record { zero_vector = refl; file_system = refl; volume_length = refl; attributes = refl; reserved = refl; block_map = refl }) (refl, refl) refl (tt, tt) tt

pub empty_read : Accepted empty_volume (Volume (head 128 None) NoFiles)
unfolding all_are
empty_read =
    accepts 0 128 72 None NoFiles empty_volume (record { front = record { bytes = refl; checks = refl; file_system = refl; extent_is = refl }; eighths = refl; cells = refl })
    (record { zero_vector = refl; file_system = refl; volume_length = refl; attributes = refl; reserved = refl; block_map = refl }) (refl, refl) refl (tt, tt) tt
