-- The image of a volume is read again as a volume of the same meaning. The steps:
-- 1. A file that was read can be stored with the data of the image, and is then read again as the same file
--    (`file_again`).
-- 2. So all files of a volume can be stored, and the layout uses the same facts about them (`files_again`).
-- 3. The image begins with the volume's header (`image_front`), and its files and pads tile the rest (`image_tiled`).
-- 4. So the image of a volume is read as its meaning, if the streams in its files are read again (`volume_again`).
-- 5. By induction on the nesting depth each section is read again (`sections_again`), and so is each stream and each
--    image (`streams_again`, `image_denotes`).
use Rattle.std.proofs.Common.{◌≡◌, ◌≢◌, ◌≤◌, ◌<◌, ◌+◌, ◌-◌, ◌*◌, ◌/◌, ◌%◌, ℕ, [], ◌∷◌, ◌++◌, zero, suc, Bool, true, false, List, length, take, drop}
use Rattle.std.proofs.Common.{replicate, refl, sym, ap, ◌∙◌, subst, arith, append_assoc, length-append, length-drop, map, Option, None, Some}
use Rattle.fv_base.proofs.Laws.{ne_eqb, drop_at, common_steps, AllByRecursion, bytes_eq, length-replicate, alignment_of, erased_byte, bytes_of}
use Rattle.fv_base.proofs.Laws.{data_limit, IsBytes, le, bytes_back, bytes_drop, bytes_front, field-take}
use Rattle.fv_base.specs.declared.flash.FileSystem.{FileSystem}
use Rattle.fv_base.specs.declared.flash.Polarity.{Polarity}
use Rattle.fv_base.specs.declared.flash.FileSystem.TheVariants.{Ffs3}
use Rattle.fv_file.specs.Words.{attribute_bits, is_large, is_fixed, without_large, pad_kind, needs_large, with_large, pad_head_of}
use Rattle.fv_head.specs.Words.{Extension, HeadFields, HasExt, BeginsVolume, extent_of, CanonicalRest, IfRead, canonical_head, canonical_end}
use Rattle.fv_head.specs.Words.{first_edge, ext_len, ext_spelled, polarity_of}
use Rattle.fv_head.specs.declared.extent.Extent.{Extent}
use Rattle.fv_head.proofs.Laws.{canonical_front, front_lies, length-canonical}
use Rattle.fv_placement.specs.Words.{StartsFollow, IsFirstPlacement}
use Rattle.fv_tree.specs.Words.{Meaning, Volume, FileMeanings, NoFiles, MoreFiles, FileMeaning, File, ContentMeaning, Plain, Sectioned, AreFilesOf}
use Rattle.fv_tree.specs.Words.{files_list, files_of, head_of, content_len, StreamRelation, Pairwise, MeansContent, MeansFile, VolumeOver, Opens}
use Rattle.fv_tree.specs.Words.{MeansSection, Stream, Denotes, FileForm, files_in, NoStoredTwins, current_in, top_name, volumes_in_files, volumes_in_file}
use Rattle.fv_tree.specs.Words.{volumes_in_content}
use Rattle.fv_tree.proofs.Laws.{content_long, section_long, stream_long}
use Rattle.fv_canon.specs.Words.{AreStored, IsStored, IsData, AreStarts, placement_item, ShowsPlaced, StoredFile, size_for, head_len_for, ext_pad}
use Rattle.fv_canon.specs.Words.{placed_in_volume, used_size}
use Rattle.fv_canon.specs.inner.ImageOf.{files_bytes}
use Rattle.fv_canon.proofs.ImageParts.{stored_item}
use Rattle.fv_canon.proofs.CurrentFileLaws.{stored_names, names_of, NamesApart, current_apart, all_current, forms_unmarked, no_twins, TopLast, top_last}
use Rattle.fv_canon.proofs.CurrentFileLaws.{forms_top, form_names}
use Rattle.fv_canon.proofs.CellLaws.{Storable, stored_head, length-pad_head}
use Rattle.fv_canon.proofs.ReadLaws.{FileIsAccepted, body_read, current_read}
use Rattle.fv_canon.proofs.PlacedBytesLaws.{Writable, first_is, volume_shows, length-ext_pad}
use Rattle.fv_canon.proofs.StreamImageLaws.{MeantBelow, SectionsAgain, section_again, stream_again, StreamsAgain, VolumesAgain}
use Rattle.fv_canon.proofs.VolumeListLaws.{each_joined}
use Rattle.fv_canon.proofs.BytesLaws.{bytes_volume}
use Rattle.fv_canon.proofs.StoredTilingLaws.{forms_of, Tiled, body_tiles}

-- ---- 1. a file

-- the file x that is stored in the canonical image for the file f of meaning m
record FileAgain (n : ℕ) (system : FileSystem) (m : FileMeaning) (f : FileForm) (x : StoredFile) : Type 0 where
  pub storable : Storable system x
  pub part : stored_item x ≡ placement_item m
  pub name : bytes_of x.name ≡ bytes_of f.head.name
  pub form : (p : Polarity) (at : ℕ) → MeansFile (Stream n) (record { offset = at; head = stored_head p x; payload = x.payload }) m
  pub meant : AllByRecursion (MeantBelow (suc n)) (volumes_in_file m)

-- the data d that are written for data that were read have the same content, and its length, and each volume inside is
-- the meaning of some bytes
pub data_again : (n kind : ℕ) → StreamsAgain (suc n) (Stream n) → (content : ContentMeaning) (payload d : List ℕ) → IsBytes payload
    → MeansContent (Stream n) kind payload content → IsData content d → MeansContent (Stream n) kind d content × IsBytes d
    × (length d ≡ content_len content) × AllByRecursion (MeantBelow (suc n)) (volumes_in_content content)
data_again n kind streams (Plain b) payload d small (plain, same) image =
    ((plain, sym image), subst IsBytes (sym (image ∙ same)) small, ap length image, tt)
data_again n kind streams (Sectioned ss tail) payload d small (sectioned, is) image =
    let a = streams ss tail payload d small is image in
    ((sectioned, a.0), a.1, sym (stream_long (MeansSection n) (section_long n) ss tail d a.0), a.2)

-- if attributes do not state that a file is fixed, the attributes without the large bit do not state this either
half_moves : (a : ℕ) → is_fixed a ≡ false → is_fixed (a / 2 * 2) ≡ false
half_moves a f = grind (arith, common_steps)

-- if the data of a file that was read need a large header, the file system is FFS3
large_system : (system : FileSystem) (l : Bool) (n : ℕ) → (l ≡ true → system ≡ Ffs3) → (l ≡ false → 24 + n < 16777216)
    → needs_large n ≡ true → system ≡ Ffs3
large_system system l n h k needs = grind (arith, common_steps) steps 400000

file_again : (n : ℕ) → StreamsAgain (suc n) (Stream n) → (system : FileSystem) (limit : ℕ) (m : FileMeaning) (f : FileForm) (x : StoredFile)
    → limit ≤ 24 + data_limit → FileIsAccepted system limit f → MeansFile (Stream n) f m → IsStored m x → FileAgain n system m f x
file_again n streams system limit (File name kind attributes content) f x most r (named, kinds, bits, is) (xn, xk, xa, image) =
    let d = data_again n kind streams content f.payload x.payload r.payload is image in
    let long : length x.payload ≡ length f.payload = d.2 ∙ sym (content_long n f name kind attributes content (named, kinds, bits, is)) in
    let names : bytes_of x.name ≡ bytes_of f.head.name = ap bytes_of (xn ∙ named) in
    let kind_is : x.kind ≡ f.head.kind = xk ∙ kinds in
    let bits_are : x.attributes ≡ without_large (attribute_bits f.head.attributes) = xa ∙ bits in
    let a : ℕ = attribute_bits f.head.attributes in
    record {
      storable = record {
        name = ap length names ∙ r.name;
        name_bytes = subst IsBytes (sym names) r.name_bytes;
        kind_small = omega (arith, kind_is, r.kind_small);
        attributes_small = omega (arith, bits_are, r.attributes_small);
        kind = subst (λ (n : ℕ). n ≢ pad_kind) (sym kind_is) r.kind;
        short = ap is_large bits_are ∙ ne_eqb (a / 2 * 2 % 2) 1 (λ e. omega (arith, e));
        moves = ap is_fixed bits_are ∙ half_moves a r.moves;
        large = λ e. large_system system (is_large a) (length f.payload) r.large r.short (ap needs_large (sym long) ∙ e);
        most = omega (arith, long, r.within, most);
        payload = d.1;
      };
      part = λ i. record { header = head_len_for (d.2 i); size = size_for (d.2 i); alignment = alignment_of (xa i); top = bytes_eq (bytes_of (xn i)) top_name };
      name = names;
      form = λ p at. (sym xn, sym xk, sym xa ∙ back (needs_large (length x.payload)) a x.attributes bits_are, d.0);
      meant = d.3;
    }
  where
    back : (l : Bool) (a y : ℕ) → y ≡ a / 2 * 2 → y ≡ without_large (with_large l y)
    back l a y e = grind (arith, common_steps)

-- ---- 2. file by file

-- the files that are stored in the canonical image for the files of a volume
pub record FilesAgain (n : ℕ) (system : FileSystem) (files : FileMeanings) (forms : List FileForm)
    (stored : List StoredFile) : Type 0 where
  pub storable : AllByRecursion (Storable system) stored
  pub items : map stored_item stored ≡ map placement_item (files_list files)
  pub names : names_of stored ≡ stored_names forms
  pub are : (p : Polarity) (total e : ℕ) (ss : List ℕ) → StartsFollow total e (map stored_item stored) ss
      → Pairwise (MeansFile (Stream n)) (forms_of p stored ss) (files_list files)
  pub meant : AllByRecursion (MeantBelow (suc n)) (volumes_in_files files)

files_again : (n : ℕ) → StreamsAgain (suc n) (Stream n)
    → (system : FileSystem) (limit : ℕ) (files : FileMeanings) (forms : List FileForm) (stored : List StoredFile) → limit ≤ 24 + data_limit
    → AllByRecursion (FileIsAccepted system limit) forms → Pairwise (MeansFile (Stream n)) forms (files_list files) → AreStored files stored
    → FilesAgain n system files forms stored
files_again n streams system limit NoFiles [] [] most reads pairs are =
    record { storable = tt; items = refl; names = refl; are = λ p total e ss follow. tt; meant = tt }
files_again n streams system limit (MoreFiles m ms) (f ∷ fs) (x ∷ xs) most reads pairs are =
    let here = file_again n streams system limit m f x most reads.0 pairs.0 are.0 in
    let behind = files_again n streams system limit ms fs xs most reads.1 pairs.1 are.1 in
    record {
      storable = (here.storable, behind.storable);
      items = λ i. here.part i ∷ behind.items i;
      names = λ i. here.name i ∷ behind.names i;
      are = λ p total e. elim [
        | [] ↦ λ follow. absurd follow
        | s ∷ ss ↦ λ follow. (here.form p s, behind.are p total _ ss follow.1)
      ];
      meant = each_joined (MeantBelow (suc n)) (volumes_in_file m) (volumes_in_files ms) here.meant behind.meant;
    }
files_again n streams system limit files forms stored most reads pairs are = absurd (grind arith)

-- ---- 3. the head, the files and the pads of a volume

-- an extended header that was read is the extended header of some bytes
ext_read : (x : Option Extension) (e : Extent) (b : List ℕ) → IsBytes b → HasExt x e b → IfRead x
ext_read None e b small has = tt
ext_read (Some x) e b small (before, part, behind, text, at, least, within, is, first) =
    (part, bytes_front part behind (bytes_back before (part ++ behind) (subst IsBytes text small)), is)

-- the first file begins after the header
pub first_behind : (x : Option Extension) (e : Extent) (b : List ℕ) → HasExt x e b → e.header_len ≤ e.first
first_behind x e b has = grind (arith, common_steps) steps 400000

-- the bytes after the header of an image begin with the extended header in its pad, if there is one
rest_is : (p : Polarity) (x : Option Extension) (used : ℕ) (behind : List ℕ) → CanonicalRest x (ext_pad p x used ++ behind)
unfolding ext_pad
rest_is p None used behind = tt
rest_is p (Some x) used behind =
    grind (arith, common_steps, append_assoc (pad_head_of (24 + ext_len x) p) (ext_spelled x used) behind, length-pad_head (24 + ext_len x) p) steps 400000

-- bytes that begin with the header of a volume of their own length are opened as a volume
opened : (h : HeadFields) (e : Extent) (o : List ℕ) → BeginsVolume h e o → length o ≡ h.length → Opens o
opened h e o front whole =
    let n : ℕ = e.header_len in
    let long : 64 ≤ n = (front_lies o h e front).least in
    record {
      least = omega (arith, long, front.long_enough);
      signature = sym (field-take 40 4 n o (omega (arith, long))) ∙ front.head.signature;
      file_system = (h.file_system, sym (field-take 16 16 n o (omega (arith, long))) ∙ front.head.file_system);
      length_is = ap le (sym (field-take 32 8 n o (omega (arith, long)))) ∙ front.head.volume_length ∙ sym whole;
    }

-- the facts about a volume that was read, and about the files that are stored and placed for it
pub record Known (n : ℕ) (h : HeadFields) (files : FileMeanings) (forms : List FileForm) (stored : List StoredFile)
    (starts : List ℕ) : Type 0 where
  pub writable : Writable h stored starts
  pub again : FilesAgain n h.file_system files forms stored

-- each file of a volume that was read is accepted
pub files_read : (n : ℕ) (h : HeadFields) (files : FileMeanings) (b : List ℕ) → IsBytes b
    → (d : Denotes n b (Volume h files)) → AllByRecursion (FileIsAccepted h.file_system (length (drop d.extent.first b))) d.files
files_read n h files b small d =
    let e : Extent = d.extent in
    let body : List ℕ = drop e.first b in
    rw (← d.begins.file_system, d.current.files_are) (current_read e.file_system (length body) (files_in d.cells)
    (body_read e.file_system e.polarity (length body) e.first d.cells body (bytes_drop e.first b small) (omega arith) d.tiles))

-- the files that are stored for a volume that was read can be written, and are read again
pub known : (n : ℕ) → StreamsAgain (suc n) (Stream n) → (h : HeadFields) (files : FileMeanings) (b : List ℕ) → IsBytes b
    → (d : Denotes n b (Volume h files)) (stored : List StoredFile) (starts : List ℕ)
    → AreStored files stored → AreStarts (Volume h files) starts → Known n h files d.files stored starts
known n streams h files b small d stored starts are placed =
    let e : Extent = d.extent in
    let lies = front_lies b h e d.begins in
    let body : List ℕ = drop e.first b in
    let limit : length body ≤ 24 + data_limit = omega (arith, length-drop e.first b, d.length_is, lies.limit, lies.least, first_behind h.ext e b d.begins.ext) in
    let a = files_again n streams h.file_system (length body) files d.files stored limit (files_read n h files b small d) d.meanings are in
    let place : IsFirstPlacement h.length (first_edge h h.ext) (map stored_item stored) starts = rw a.items placed in
    record {
      writable = record {
        read = (take e.header_len b, d.begins.head);
        ext = ext_read h.ext e b small d.begins.ext;
        multiple = d.begins.head.volume_multiple;
        room = place.placement.room;
        files = a.storable;
        follow = place.placement.follow;
      };
      again = a;
    }

-- an image begins with its header, and then with the extended header in its pad
pub image_front : (h : HeadFields) (fs : List StoredFile) (ss o : List ℕ) → Writable h fs ss
    → ShowsPlaced h.length (erased_byte (polarity_of h.attributes)) (placed_in_volume h fs ss) o
    → BeginsVolume h (extent_of h (first_edge h h.ext)) o
image_front h fs ss o k shows =
    let p : Polarity = polarity_of h.attributes in
    let first : ℕ = first_edge h h.ext in
    let used : ℕ = used_size first fs ss in
    let fill : List ℕ = replicate (first - canonical_end h h.ext) (erased_byte p) ++ files_bytes p h.length first fs ss in
    let text = volume_shows h fs ss o k shows in
    rw text (canonical_front h (ext_pad p h.ext used ++ fill) k.read k.ext (rest_is p h.ext used fill)
    (omega (arith, (first_is h h.ext).0, k.room)) (omega (arith, ap length text, shows.length_is)))

-- the files and pads of an image tile the bytes from the first edge on
pub image_tiled : (h : HeadFields) (fs : List StoredFile) (ss o : List ℕ) → Writable h fs ss
    → ShowsPlaced h.length (erased_byte (polarity_of h.attributes)) (placed_in_volume h fs ss) o
    → Tiled h.file_system (polarity_of h.attributes) (first_edge h h.ext) (drop (first_edge h h.ext) o)
    (forms_of (polarity_of h.attributes) fs ss)
image_tiled h fs ss o k shows =
    let p : Polarity = polarity_of h.attributes in
    let first : ℕ = first_edge h h.ext in
    let used : ℕ = used_size first fs ss in
    let front : List ℕ = (canonical_head h ++ ext_pad p h.ext used) ++ replicate (first - canonical_end h h.ext) (erased_byte p) in
    let long : length front ≡ first = simp (length-append, length-replicate)
    (omega (arith, length-canonical h k.read, length-ext_pad p h h.ext used k.ext, (first_is h h.ext).0)) in
    let body = simp append_assoc at (drop_at front (files_bytes p h.length first fs ss) first long) in
    rw (volume_shows h fs ss o k shows, body) (body_tiles h.file_system p h.length first fs ss k.multiple (first_is h h.ext).1 k.files k.follow)

-- ---- 4. a volume is read again if the streams in it are

-- a header and files make a volume
pub volume_of : (is_stream : StreamRelation) (b : List ℕ) (m : Meaning) (e : Extent) (files : List FileForm) → BeginsVolume (head_of m) e b
    → length b ≡ e.length → AreFilesOf e b files → Pairwise (MeansFile is_stream) files (files_of m) → VolumeOver is_stream b m
volume_of is_stream b m e files front whole contained meanings = grind (arith, common_steps)

volume_again : (n : ℕ) → StreamsAgain (suc n) (Stream n) → VolumesAgain (suc n) (Denotes n)
volume_again n streams (Volume h files) b o small d (stored, starts, are, placed, shows) =
    let p : Polarity = polarity_of h.attributes in
    let first : ℕ = first_edge h h.ext in
    let known_of = known n streams h files b small d stored starts are placed in
    let k = known_of.writable in
    let a = known_of.again in
    let front = image_front h stored starts o k shows in
    let tiled = image_tiled h stored starts o k shows in
    let apart : NamesApart (stored_names (forms_of p stored starts)) =
    rw (form_names p h.length first stored starts k.follow ∙ a.names, d.current.files_are) (current_apart (files_in d.cells) d.current.no_twins) in
    let means : Denotes n o (Volume h files) =
    volume_of (Stream n) o (Volume h files) (extent_of h first) (forms_of p stored starts) front shows.length_is (record {
      cells = tiled.cells;
      tiles = tiled.tiles;
      current = record {
        no_twins = subst NoStoredTwins (sym tiled.files_are) (no_twins (forms_of p stored starts) apart);
        files_are = sym (all_current (forms_of p stored starts) (forms_unmarked p stored starts)) ∙ ap current_in (sym tiled.files_are);
        top = forms_top p h.length first stored starts (subst TopLast (sym a.names) (top_last d.extent.length d.files d.current.top)) k.follow;
      };
    }) (a.are p h.length first starts k.follow) in (
      means,
      subst IsBytes (sym (volume_shows h stored starts o k shows)) (bytes_volume h stored starts k),
      opened h (extent_of h first) o front shows.length_is,
      ((n, omega arith, b, small, d), a.meant),
    )

-- ---- 5. all volumes, by induction on the nesting depth

pub sections_again : (n : ℕ) → SectionsAgain (suc n) (MeansSection n)
sections_again zero =
    section_again 0 (λ _ _ _. ⊥) (λ _ _. ⊥) (λ ss tail b o small none image. absurd none) (λ m b o small none image. absurd none)
sections_again (suc n) =
    let streams = stream_again n (sections_again n) in section_again (suc n) (Stream n) (Denotes n) streams (volume_again n streams)

pub streams_again : (n : ℕ) → StreamsAgain (suc n) (Stream n)
streams_again n = stream_again n (sections_again n)

-- an image of a meaning is a volume of this meaning, and a list of bytes; each volume inside is the meaning of some bytes
pub image_denotes : (n : ℕ) → VolumesAgain (suc n) (Denotes n)
image_denotes n = volume_again n (streams_again n)
