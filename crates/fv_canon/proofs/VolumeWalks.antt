-- Facts about a volume that was read and laid out (`volume_laid`), about the bytes that the walk over the volume writes
-- (`volume_text`), and about the starts that are left (`volume_rest`).
use Rattle.std.proofs.Common.{◌≡◌, ◌≤◌, ◌<◌, ◌+◌, ◌-◌, ℕ, [], ◌∷◌, ◌++◌, zero, suc, List, length, take, drop, replicate}
use Rattle.fv_base.proofs.Laws.{common_steps, erased_byte, up_to_8, get_or, refl, sym, ap, ◌∙◌, subst, arith, append_assoc, drop-drop, map, Option}
use Rattle.fv_head.specs.Words.{Extension, HeadFields, canonical_head, canonical_end, first_edge, polarity_of}
use Rattle.fv_placement.specs.Words.{StartsFollow}
use Rattle.fv_placement.specs.declared.first_placement.PlacementItem.{PlacementItem}
use Rattle.fv_tree.specs.Words.{Meaning, Volume, FileMeanings, FileMeaning, head_of, data_len_of, files_from, IsMeaning, Stream, volumes_in}
use Rattle.fv_tree.specs.Words.{volumes_in_files}
use Rattle.fv_canon.specs.inner.ImageOf.{image_of, stored_of, starts_in, files_bytes}
use Rattle.fv_canon.proofs.ImageParts.{stored_item}
use Rattle.fv_canon.specs.Words.{BeginsWithStarts, AreStored, placement_items, placement_item, StoredFile, size_for, stored_len, used_size, ext_pad}
use Rattle.fv_canon.proofs.WrittenImageLaws.{files_made, streams_made}
use Rattle.fv_canon.proofs.VolumeListLaws.{begins_own}
use Rattle.fv_canon.proofs.PlacedBytesLaws.{first_is}
use Rattle.fv_canon.proofs.VolumeImageLaws.{known, files_read, streams_again}
use Rattle.fv_canon.specs.inner.FileWalks.{ArePlaced, used_by}
use Rattle.fv_tree.proofs.Laws.{files_list_back}

-- ---- the used size

-- the end of the last file is the same if it is found from the stored files (`used_size`) and if it is found from their
-- placement items (`used_by`)
used_stored : (end : ℕ) (fs : List StoredFile) (ss : List ℕ) → used_size end fs ss ≡ used_by end (map stored_item fs) ss
used_stored end (f ∷ fs) (s ∷ ss) = used_stored (s + stored_len f) fs ss
used_stored end fs ss = refl

-- the last file ends at the end of the used bytes, within the volume, and has a start
pub used_last : (total e end : ℕ) (fs : List FileMeaning) (ss : List ℕ) (n : ℕ) (d : FileMeaning) → length fs ≡ suc n
    → StartsFollow total e (map placement_item fs) ss
    → (used_by end (map placement_item fs) ss ≡ get_or ss n 0 + size_for (data_len_of (get_or fs n d)))
    × (get_or ss n 0 + size_for (data_len_of (get_or fs n d)) ≤ total) × (n < length ss)
used_last total e end (f ∷ fs) [] n d l follow = absurd follow
used_last total e end (f ∷ []) (s ∷ ss) zero d l follow = (refl, follow.0.within, omega arith)
used_last total e end (f ∷ g ∷ fs) (s ∷ ss) (suc n) d l follow =
    grind (arith, common_steps, used_last total (up_to_8 (s + size_for (data_len_of f))) (s + size_for (data_len_of f)) (g ∷ fs) ss n d (omega (arith, l)) follow.1) steps 400000
used_last total e end fs ss n d l follow = absurd (omega (arith, l))

-- ---- the volume
-- the facts about a volume that was read, if the list begins with the starts of the volume's own files and the starts
-- of the files inside
pub record VolumeLaid (h : HeadFields) (fs : List FileMeaning) (starts : List ℕ) : Type 0 where
  pub enough : length fs ≤ length starts
  pub placed : ArePlaced h.length (first_edge h h.ext) fs (take (length fs) starts)
  pub inner : BeginsWithStarts (volumes_in_files (files_from fs)) (drop (length fs) starts)
  pub used : used_size (first_edge h h.ext) (stored_of (files_from fs) (drop (length fs) starts)) (take (length fs) starts)
      ≡ used_by (first_edge h h.ext) (map placement_item fs) (take (length fs) starts)

least_first : (h : HeadFields) (x : Option Extension) → 64 ≤ first_edge h x
least_first h x = grind (arith, common_steps)

volume_laid : (h : HeadFields) (fs : List FileMeaning) (starts : List ℕ) → IsMeaning (Volume h (files_from fs))
    → BeginsWithStarts (volumes_in (Volume h (files_from fs))) starts → VolumeLaid h fs starts
volume_laid h fs starts (k, few, b, small, d) begins =
    let files : FileMeanings = files_from fs in
    let first : ℕ = first_edge h h.ext in
    let own : List ℕ = take (length fs) starts in
    let stored : List StoredFile = stored_of files (drop (length fs) starts) in
    let parts = begins_own (record { depth = 0; volume = Volume h files }) (volumes_in_files files) (length fs) starts
    (ap length (files_list_back fs)) begins in
    let items : placement_items (Volume h files) ≡ map placement_item fs = ap (map placement_item) (files_list_back fs) in
    let are : AreStored files stored = files_made (Stream k) (streams_made k) h.file_system (length (drop d.extent.first b)) files d.files
    (drop (length fs) starts) (files_read k h files b small d) d.meanings parts.2 in
    let same = (known k (streams_again k) h files b small d stored own are parts.1).again.items in
    record {
      enough = parts.0;
      placed = record {
        follow = subst (λ (ps : List PlacementItem). StartsFollow h.length first ps own) items parts.1.placement.follow;
        eighth = (first_is h h.ext).1;
        after_header = least_first h h.ext;
        within = parts.1.placement.room;
        multiple = d.begins.head.volume_multiple;
        limit = d.begins.head.volume_most;
      };
      inner = parts.2;
      used = used_stored first stored own ∙ ap (λ (ps : List PlacementItem). used_by first ps own) (same ∙ items);
    }

-- the walk writes the header, the extended header in its pad, and the files
pub volume_text : (h : HeadFields) (fs : List FileMeaning) (starts : List ℕ) → VolumeLaid h fs starts
    → image_of (Volume h (files_from fs)) starts
    ≡ canonical_head h
    ++ ((ext_pad (polarity_of h.attributes) h.ext (used_by (first_edge h h.ext) (map placement_item fs) (take (length fs) starts))
    ++ replicate (first_edge h h.ext - canonical_end h h.ext) (erased_byte (polarity_of h.attributes)))
    ++ files_bytes (polarity_of h.attributes) h.length (first_edge h h.ext) (stored_of (files_from fs) (drop (length fs) starts))
    (take (length fs) starts))
volume_text h fs starts v = grind (arith, common_steps, files_list_back, append_assoc)

-- a meaning whose header and files are given is the volume of this header and these files
pub volume_is : (m : Meaning) (h : HeadFields) (fs : List FileMeaning) → m ≡ Volume (head_of m) (files_from fs) → h ≡ head_of m
    → m ≡ Volume h (files_from fs)
volume_is m h fs e f = e ∙ ap (λ (x : HeadFields). Volume x (files_from fs)) (sym f)

-- a meaning whose header and files are given is laid out as this volume
pub volume_seen : (m : Meaning) (h : HeadFields) (fs : List FileMeaning) (starts : List ℕ) → m ≡ Volume (head_of m) (files_from fs)
    → h ≡ head_of m → IsMeaning m → BeginsWithStarts (volumes_in m) starts → VolumeLaid h fs starts
volume_seen m h fs starts e f read laid = let is = volume_is m h fs e f in volume_laid h fs starts (rw is at read) (rw is at laid)

-- a walk that drops the starts of a volume's own files, and then the starts of the files of the volumes inside, has
-- dropped all starts of the volume
pub volume_rest : (m : Meaning) (fs : List FileMeaning) (starts inner rest : List ℕ) → m ≡ Volume (head_of m) (files_from fs)
    → inner ≡ drop (length fs) starts → rest ≡ drop (starts_in (volumes_in_files (files_from fs))) inner
    → rest ≡ drop (starts_in (volumes_in m)) starts
volume_rest m fs starts inner rest is behind left =
    grind (arith, common_steps, drop-drop (starts_in (volumes_in_files (files_from fs))) (length fs) starts, files_list_back fs) steps 400000
