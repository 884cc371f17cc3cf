-- The image that is defined by offsets is the image that a walk over the files writes. The steps:
-- 1. The erased bytes before a span may be written in two pieces (`painted_later`), and two spans that follow one
--    another come next (`two_spans`).
-- 2. So the files are in order, and the walk writes them (`files_placed`).
-- 3. With the header and the extended header the same is true of the volume (`volume_placed`).
-- 4. So the bytes that show the volume are the bytes that the walk writes (`volume_shows`, `volume_written`).
use Rattle.std.proofs.Common.{◌≡◌, ◌≤◌, ◌+◌, ◌-◌, ◌%◌, ℕ, [], ◌∷◌, ◌++◌, List, length, replicate, refl, ◌∙◌, arith}
use Rattle.fv_base.proofs.Laws.{common_steps, length-append, append_assoc, map, Option, None, Some, AllByRecursion, erased_byte, up_to_8}
use Rattle.std.proofs.lemmas.List.{replicate-append-replicate}
use Rattle.fv_base.specs.declared.flash.FileSystem.{FileSystem}
use Rattle.fv_base.specs.declared.flash.Polarity.{Polarity}
use Rattle.fv_file.specs.Words.{pad_head_of}
use Rattle.fv_head.specs.Words.{Extension, HeadFields, header_len_of, IsReadHead, IfRead, canonical_head, canonical_end, first_edge, ext_len}
use Rattle.fv_head.specs.Words.{ext_spelled, polarity_of}
use Rattle.fv_head.proofs.Laws.{ext_again, length-canonical}
use Rattle.fv_placement.specs.Words.{StartsFollow}
use Rattle.fv_canon.specs.Words.{PlacedBytes, ShowsPlaced, painted, InOrder, StoredFile, stored_len, stored_bytes, gap_bytes, placed_files, ext_pad}
use Rattle.fv_canon.specs.Words.{placed_in_volume, used_size}
use Rattle.fv_canon.specs.inner.ImageOf.{files_bytes, volume_bytes}
use Rattle.fv_canon.proofs.ImageParts.{stored_item}
use Rattle.fv_canon.proofs.CellLaws.{Storable, length-stored, length-pad_head}
use Rattle.fv_canon.proofs.PositionLaws.{shows_walk, one_image}
use Rattle.fv_canon.proofs.StoredTilingLaws.{apart, filler_is, length-gap}

-- spans that are in order after an edge are in order after each lower edge
lower : (total x y : ℕ) (ps : List PlacedBytes) → x ≤ y → InOrder total y ps → InOrder total x ps
lower total x y [] l o = omega (arith, l, o)
lower total x y (q ∷ qs) l o = (omega (arith, l, o.0), o.1)

-- erased bytes are written in one piece or in two
two_fills : (erased x y z : ℕ) → x ≤ y → y ≤ z → replicate (z - x) erased ≡ replicate (y - x) erased ++ replicate (z - y) erased
two_fills erased x y z l g = grind (arith, common_steps, replicate-append-replicate) steps 400000

-- so the erased bytes before the first span are written in one piece or in two
painted_later : (erased total x y : ℕ) (ps : List PlacedBytes) → x ≤ y → InOrder total y ps
    → painted erased total x ps ≡ replicate (y - x) erased ++ painted erased total y ps
painted_later erased total x y [] l o = two_fills erased x y total l o
painted_later erased total x y (p ∷ ps) l o = rw (two_fills erased x y p.at l o.0) (simp append_assoc)

-- a span that begins where the walk is and a span that follows it come next, and then erased bytes up to the edge y
two_spans : (erased total e at x y : ℕ) (a b : List ℕ) (ps : List PlacedBytes) → at ≡ e + length a → at + length b ≡ x → x ≤ y
    → InOrder total y ps → InOrder total e (record { at = e; bytes = a } ∷ record { at = at; bytes = b } ∷ ps)
    × (painted erased total e (record { at = e; bytes = a } ∷ record { at = at; bytes = b } ∷ ps)
    ≡ a ++ (b ++ (replicate (y - x) erased ++ painted erased total y ps)))
two_spans erased total e at x y a b ps place ends l o = (
  (omega arith, (omega (arith, place), lower total (at + length b) y ps (omega (arith, ends, l)) o)),
  grind (arith, common_steps, append_assoc, painted_later erased total x y ps l o),
)

-- ---- the files

-- the files are in order, and the walk writes them
files_placed : (system : FileSystem) (p : Polarity) (total e : ℕ) (fs : List StoredFile) (ss : List ℕ) → total % 8 ≡ 0 → e % 8 ≡ 0
    → e ≤ total → AllByRecursion (Storable system) fs → StartsFollow total e (map stored_item fs) ss
    → InOrder total e (placed_files p e fs ss)
    × (painted (erased_byte p) total e (placed_files p e fs ss) ≡ files_bytes p total e fs ss)
files_placed system p total e [] [] h m r all follow = (r, refl)
files_placed system p total e (f ∷ fs) (s ∷ ss) h m r all follow =
    let a = apart e s m follow.0.lawful.eighth follow.0.lawful.gap in
    let x : ℕ = s + stored_len f in
    let rest = files_placed system p total (up_to_8 x) fs ss h (filler_is x).2 (omega (arith, follow.0.within)) all.1 follow.1 in
    rw rest.1 at (two_spans (erased_byte p) total e s x (up_to_8 x) (gap_bytes p (s - e)) (stored_bytes p f) (placed_files p (up_to_8 x) fs ss)
    (omega (arith, length-gap p (s - e) a.0 a.1, a.2)) (omega (arith, length-stored system p f all.0)) (omega arith) rest.0)
files_placed system p total e fs ss h m r all follow = absurd follow

-- ---- the volume

-- the facts about a volume that can be written
pub record Writable (h : HeadFields) (fs : List StoredFile) (ss : List ℕ) : Type 0 where
  pub read : IsReadHead h
  pub ext : IfRead h.ext
  pub multiple : h.length % 8 ≡ 0
  pub room : first_edge h h.ext ≤ h.length
  pub files : AllByRecursion (Storable h.file_system) fs
  pub follow : StartsFollow h.length (first_edge h h.ext) (map stored_item fs) ss

-- the header, and the extended header in its pad, end at the offset `canonical_end`
pub length-ext_pad : (p : Polarity) (h : HeadFields) (x : Option Extension) (used : ℕ) → IfRead x
    → header_len_of h + length (ext_pad p x used) ≡ canonical_end h x
unfolding ext_pad
length-ext_pad p h None used k = omega arith
length-ext_pad p h (Some x) used k =
    omega (arith, length-append (pad_head_of (24 + ext_len x) p) (ext_spelled x used), length-pad_head (24 + ext_len x) p, (ext_again x used k).1)

-- the first edge is not before the end of these headers, and is a multiple of 8
pub first_is : (h : HeadFields) (x : Option Extension) → (canonical_end h x ≤ first_edge h x) × (first_edge h x % 8 ≡ 0)
first_is h x = grind (arith, common_steps)

-- the spans of a volume are in order, and the walk writes them
volume_placed : (h : HeadFields) (fs : List StoredFile) (ss : List ℕ) → Writable h fs ss → InOrder h.length 0 (placed_in_volume h fs ss)
    × (painted (erased_byte (polarity_of h.attributes)) h.length 0 (placed_in_volume h fs ss) ≡ volume_bytes h fs ss)
volume_placed h fs ss k =
    let p : Polarity = polarity_of h.attributes in
    let first : ℕ = first_edge h h.ext in
    let used : ℕ = used_size first fs ss in
    let f = first_is h h.ext in
    let files = files_placed h.file_system p h.length first fs ss k.multiple f.1 k.room k.files k.follow in
    rw files.1 at (two_spans (erased_byte p) h.length 0 (header_len_of h) (canonical_end h h.ext) first (canonical_head h) (ext_pad p h.ext used)
    (placed_files p first fs ss) (omega (arith, length-canonical h k.read)) (length-ext_pad p h h.ext used k.ext) f.0 files.0)

-- bytes that show the volume are the bytes that the walk writes
pub volume_shows : (h : HeadFields) (fs : List StoredFile) (ss b : List ℕ) → Writable h fs ss
    → ShowsPlaced h.length (erased_byte (polarity_of h.attributes)) (placed_in_volume h fs ss) b → b ≡ volume_bytes h fs ss
volume_shows h fs ss b k shows =
    let v = volume_placed h fs ss k in
    one_image (erased_byte (polarity_of h.attributes)) h.length (placed_in_volume h fs ss) b v.0 shows ∙ v.1

-- the bytes that the walk writes show the volume
pub volume_written : (h : HeadFields) (fs : List StoredFile) (ss : List ℕ) → Writable h fs ss
    → ShowsPlaced h.length (erased_byte (polarity_of h.attributes)) (placed_in_volume h fs ss) (volume_bytes h fs ss)
volume_written h fs ss k =
    let v = volume_placed h fs ss k in
    rw v.1 at (shows_walk (erased_byte (polarity_of h.attributes)) h.length (placed_in_volume h fs ss) v.0)
