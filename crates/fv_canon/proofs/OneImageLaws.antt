-- A meaning has at most one image. The steps:
-- 1. Two lists of bytes that show the same spans are equal (`shows_one` of PositionLaws), and files have at most one
--    first placement (`starts_one` of fv_placement).
-- 2. So by induction on the meaning there is at most one image (`image_one`). The same is true of a file's data and of
--    a section's body (`data_one`, `body_one`).
use Rattle.std.proofs.Common.{◌≡◌, ◌+◌, ℕ, ◌∷◌, List, length, sym, ◌∙◌, subst}
use Rattle.fv_base.proofs.Laws.{erased_byte}
use Rattle.fv_head.specs.Words.{first_edge, polarity_of}
use Rattle.fv_placement.proofs.Laws.{starts_one}
use Rattle.fv_section.specs.Words.{FrameForm, frame_len, up_to_4}
use Rattle.fv_tree.specs.Words.{Meaning, Volume, head_of, FileMeanings, NoFiles, MoreFiles, FileMeaning, File, ContentMeaning, Plain, Sectioned}
use Rattle.fv_tree.specs.Words.{SectionMeanings, NoSections, MoreSections, SectionMeaning, Section, BodyMeaning, Leaf, Group, Nested}
use Rattle.fv_canon.specs.Words.{IsImage, AreStored, IsStored, IsData, AreFrames, IsFrame, IsBodyImage, placement_items, StoredFile, placed_in_volume}
use Rattle.fv_canon.proofs.PositionLaws.{shows_one}

-- ---- there is one image at most

-- an image has the length that its header states
pub image_length : (m : Meaning) (image : List ℕ) → IsImage m image → length image ≡ (head_of m).length
image_length (Volume h files) image (stored, starts, are, placed, shows) = shows.length_is

-- a meaning has at most one image, and the same is true of its files, their data, the frames and their bodies
mutual
  pub image_one : (m : Meaning) (b c : List ℕ) → IsImage m b → IsImage m c → b ≡ c
  image_one (Volume h files) b c (xs, ss, are, placed, shows) (ys, ts, are', placed', shows') =
      let starts : ss ≡ ts = starts_one h.length (first_edge h h.ext) (placement_items (Volume h files)) ss ts placed placed' in
      let stored : xs ≡ ys = stored_one files xs ys are are' in
      shows_one h.length (erased_byte (polarity_of h.attributes)) (placed_in_volume h ys ts) b c (rw (← starts, ← stored) shows) shows'

  stored_one : (files : FileMeanings) (xs ys : List StoredFile) → AreStored files xs → AreStored files ys → xs ≡ ys
  stored_one NoFiles xs ys p q = p ∙ sym q
  stored_one (MoreFiles f fs) (x ∷ xs) (y ∷ ys) p q = λ i. file_one f x y p.0 q.0 i ∷ stored_one fs xs ys p.1 q.1 i
  stored_one (MoreFiles f fs) xs ys p q = absurd assumption

  file_one : (m : FileMeaning) (x y : StoredFile) → IsStored m x → IsStored m y → x ≡ y
  file_one (File name kind attributes content) x y (a, b, c, d) (e, f, g, h) =
      λ i. record { name = (a ∙ sym e) i; kind = (b ∙ sym f) i; attributes = (c ∙ sym g) i; payload = data_one content x.payload y.payload d h i }

  pub data_one : (c : ContentMeaning) (d e : List ℕ) → IsData c d → IsData c e → d ≡ e
  data_one (Plain b) d e p q = p ∙ sym q
  data_one (Sectioned sections tail) d e (fs, are, text) (gs, are', text') = cc (frames_one 0 sections fs gs are are')

  frames_one : (at : ℕ) (sections : SectionMeanings) (fs gs : List FrameForm) → AreFrames at sections fs → AreFrames at sections gs
      → fs ≡ gs
  frames_one at NoSections fs gs p q = p ∙ sym q
  frames_one at (MoreSections s ss) (f ∷ fs) (g ∷ gs) p q =
      let here : f ≡ g = frame_one s f g (p.0 ∙ sym q.0) p.1 q.1 in
      λ i. here i ∷ frames_one (up_to_4 (at + frame_len g)) ss fs gs
      (subst (λ (h : FrameForm). AreFrames (up_to_4 (at + frame_len h)) ss fs) here p.2) q.2 i
  frames_one at (MoreSections s ss) fs gs p q = absurd assumption

  frame_one : (s : SectionMeaning) (f g : FrameForm) → f.offset ≡ g.offset → IsFrame s f → IsFrame s g → f ≡ g
  frame_one (Section kind extended body) f g same (a, b, c) (d, e, h) =
      λ i. record { offset = same i; kind = (a ∙ sym d) i; extended = (b ∙ sym e) i; body = body_one body f.body g.body c h i }

  pub body_one : (m : BodyMeaning) (d e : List ℕ) → IsBodyImage m d → IsBodyImage m e → d ≡ e
  body_one (Leaf b) d e p q = p ∙ sym q
  body_one (Group sections tail) d e (fs, are, text) (gs, are', text') = cc (frames_one 0 sections fs gs are are')
  body_one (Nested volume) d e p q = image_one volume d e p q
