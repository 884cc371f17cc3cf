-- The image of a volume contains the image of each volume inside, as consecutive bytes. So a volume that has an image
-- fits.
use Rattle.std.proofs.Common.{◌-◌, ◌+◌, ℕ, [], ◌∷◌, ◌++◌, List, length, drop, replicate, sym, ap, ◌∙◌, append_assoc, append-nil, map, suc, arith}
use Rattle.fv_base.proofs.Laws.{common_steps, take-append-drop, AllByRecursion, up_to_8}
use Rattle.fv_base.specs.declared.flash.Polarity.{Polarity}
use Rattle.fv_file.specs.Words.{attributes_by, file_sum_for, file_head_of}
use Rattle.fv_head.specs.Words.{first_edge, polarity_of}
use Rattle.fv_section.specs.Words.{FrameForm, frame_len, up_to_4, section_head_of, stream_of}
use Rattle.fv_tree.specs.Words.{Meaning, Volume, FileMeanings, NoFiles, MoreFiles, FileMeaning, File, Plain, Sectioned, SectionMeanings, NoSections}
use Rattle.fv_tree.specs.Words.{MoreSections, SectionMeaning, Section, BodyMeaning, Leaf, Group, Nested, files_list, IsMeaning, Inside, volumes_in}
use Rattle.fv_tree.specs.Words.{volumes_in_files, volumes_in_file, volumes_in_sections, volumes_in_section, volumes_in_body}
use Rattle.fv_canon.specs.Words.{IsWithin, HasOwnImage, EachVolumeHasItsImage, IsImage, AreStored, IsStored, AreFrames, IsFrame, IsBodyImage}
use Rattle.fv_canon.specs.Words.{AreStarts, Fits, IsPlaced, placement_item, PlacedBytes, ContainsSpan, StoredFile, stored_bytes, stored_len}
use Rattle.fv_canon.specs.Words.{placed_files}
use Rattle.fv_placement.specs.Words.{StartsFollow}
use Rattle.fv_canon.proofs.VolumeListLaws.{each_joined, each_deeper, each_weaker}
use Rattle.fv_canon.proofs.StreamImageLaws.{MeantBelow}
use Rattle.fv_canon.proofs.VolumeImageLaws.{image_denotes}

-- a span that the bytes b contain lies within b
stands_within : (b : List ℕ) (p : PlacedBytes) → ContainsSpan b p → IsWithin p.bytes b
stands_within b p (low, is) = grind (arith, common_steps, take-append-drop (length p.bytes) (drop p.at b), take-append-drop p.at b) steps 400000

-- ---- data, bodies and volumes that lie within the whole

module _ (whole : List ℕ) where
  payload_within : (p : Polarity) (x : StoredFile) (s : ℕ) (b : List ℕ) → ContainsSpan b (record { at = s; bytes = stored_bytes p x })
      → IsWithin b whole → IsWithin x.payload whole
  unfolding stored_bytes
  payload_within p x s b contained (y, z, q) =
      let own = stands_within b (record { at = s; bytes = stored_bytes p x }) contained in
      let head : List ℕ = file_head_of x.name x.kind (attributes_by x.attributes) (length x.payload) (file_sum_for x.attributes x.payload) p in
      (y ++ (own.0 ++ head), own.1 ++ z, q ∙ ap (λ (xs : List ℕ). y ++ (xs ++ z)) own.2 ∙ simp append_assoc)

  bodies_within : (fs : List FrameForm) (tail : ℕ) → IsWithin (stream_of fs tail) whole → AllByRecursion (λ f. IsWithin f.body whole) fs
  bodies_within [] tail within = tt
  bodies_within (f ∷ []) tail (y, z, q) =
      ((y ++ section_head_of f.kind f.extended (length f.body), replicate tail 0 ++ z, q ∙ simp append_assoc), tt)
  bodies_within (f ∷ g ∷ fs) tail (y, z, q) =
      let head : List ℕ = section_head_of f.kind f.extended (length f.body) in
      let fill : List ℕ = replicate (up_to_4 (frame_len f) - frame_len f) 0 in (
        (y ++ head, (fill ++ stream_of (g ∷ fs) tail) ++ z, q ∙ simp append_assoc),
        bodies_within (g ∷ fs) tail (y ++ (head ++ (f.body ++ fill)), z, q ∙ simp append_assoc),
      )

  mutual
    volume_inside : (m : Meaning) (b : List ℕ) → IsImage m b → IsWithin b whole → AllByRecursion (HasOwnImage whole) (volumes_in m)
    volume_inside (Volume h files) b (stored, starts, are, placed, shows) within = (
      (b, (stored, starts, are, placed, shows), within),
      files_inside files stored starts b (polarity_of h.attributes) h.length (first_edge h h.ext) (first_edge h h.ext) are
          placed.placement.follow shows.contained.1.1 within,
    )

    files_inside : (files : FileMeanings) (stored : List StoredFile) (starts b : List ℕ) (p : Polarity) (total e k : ℕ)
        → AreStored files stored → StartsFollow total e (map placement_item (files_list files)) starts
        → AllByRecursion (ContainsSpan b) (placed_files p k stored starts) → IsWithin b whole
        → AllByRecursion (HasOwnImage whole) (volumes_in_files files)
    files_inside NoFiles stored starts b p total e k are follow contained within = tt
    files_inside (MoreFiles f fs) (x ∷ xs) (s ∷ ss) b p total e k are follow contained within =
        each_joined (HasOwnImage whole) (volumes_in_file f) (volumes_in_files fs)
        (file_inside f x are.0 (payload_within p x s b contained.1.0 within))
        (files_inside fs xs ss b p total (up_to_8 (s + (placement_item f).size)) (up_to_8 (s + stored_len x)) are.1 follow.1 contained.1.1 within)
    files_inside (MoreFiles f fs) stored starts b p total e k are follow contained within = absurd assumption

    file_inside : (m : FileMeaning) (x : StoredFile) → IsStored m x → IsWithin x.payload whole
        → AllByRecursion (HasOwnImage whole) (volumes_in_file m)
    file_inside (File name kind attributes (Plain bytes)) x is within = tt
    file_inside (File name kind attributes (Sectioned sections tail)) x (named, kinds, bits, (frames, are, text)) within =
        frames_inside 0 sections frames are (bodies_within frames tail (rw text at within))

    frames_inside : (at : ℕ) (sections : SectionMeanings) (frames : List FrameForm) → AreFrames at sections frames
        → AllByRecursion (λ f. IsWithin f.body whole) frames → AllByRecursion (HasOwnImage whole) (volumes_in_sections sections)
    frames_inside at NoSections frames are within = tt
    frames_inside at (MoreSections s ss) [] are within = absurd are
    frames_inside at (MoreSections s ss) (f ∷ fs) (place, is, behind) within =
        each_joined (HasOwnImage whole) (volumes_in_section s) (volumes_in_sections ss) (frame_inside s f is within.0)
        (frames_inside (up_to_4 (at + frame_len f)) ss fs behind within.1)

    frame_inside : (s : SectionMeaning) (f : FrameForm) → IsFrame s f → IsWithin f.body whole
        → AllByRecursion (HasOwnImage whole) (volumes_in_section s)
    frame_inside (Section kind extended body) f (kinds, form, is) within =
        each_deeper (λ m. (own : List ℕ) × IsImage m own × IsWithin own whole) (volumes_in_body body) (body_inside body f.body is within)

    body_inside : (body : BodyMeaning) (d : List ℕ) → IsBodyImage body d → IsWithin d whole
        → AllByRecursion (HasOwnImage whole) (volumes_in_body body)
    body_inside (Leaf b) d is within = tt
    body_inside (Group sections tail) d (frames, are, text) within =
        frames_inside 0 sections frames are (bodies_within frames tail (rw text at within))
    body_inside (Nested volume) d is within = volume_inside volume d is within

-- the image of a volume contains the image of each volume inside
all_inside : (m : Meaning) (b : List ℕ) → IsImage m b → AllByRecursion (HasOwnImage b) (volumes_in m)
all_inside m b is = volume_inside b m b is ([], [], sym (append-nil b))

-- a volume that has an image fits, because each volume inside has an image too, so the files of each volume are placed
pub image_fits : (m : Meaning) (b : List ℕ) → IsImage m b → Fits m
image_fits m b is =
    each_weaker (HasOwnImage b) IsPlaced (λ v own. placed_of v.volume own.0 own.1) (volumes_in m) (all_inside m b is)
  where
    placed_of : (m : Meaning) (b : List ℕ) → IsImage m b → (starts : List ℕ) × AreStarts m starts
    placed_of (Volume h files) b (stored, starts, are, placed, shows) = (starts, placed)

pub each_volume_has_its_image : EachVolumeHasItsImage
each_volume_has_its_image m image (n, few, b, small, d) is =
    both (volumes_in m) (image_denotes n m b image small d is).3 (all_inside m image is)
  where
    both : (vs : List Inside) → AllByRecursion (MeantBelow (suc n)) vs → AllByRecursion (HasOwnImage image) vs
        → AllByRecursion (λ v. IsMeaning v.volume × HasOwnImage image v) vs
    both [] p q = tt
    both (v ∷ vs) ((k, less, a, little, e), p) (own, q) = (((k, omega (arith, less, few), a, little, e), own), both vs p q)
