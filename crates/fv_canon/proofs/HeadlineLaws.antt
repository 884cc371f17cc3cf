-- The headline: two volumes have the same image exactly if they have the same meaning. An image has the length and the
-- meaning of its volume, and is its own image. An image is the image of only one meaning.
use Rattle.std.proofs.Common.{◌≡◌, ◌≤◌, ◌+◌, ◌-◌, ℕ, zero, suc, List, [], ◌∷◌, sym, ◌∙◌, subst, arith}
use Rattle.fv_base.specs.Words.{IsBytes, depth_limit}
use Rattle.fv_section.specs.Words.{FrameForm}
use Rattle.fv_tree.specs.Words.{Meaning, FileMeaning, File, ContentMeaning, Plain, Sectioned, SectionMeaning, Section, Leaf, Group, Nested}
use Rattle.fv_tree.specs.Words.{sections_list, files_of, SectionRelation, StreamRelation, VolumeRelation, Pairwise, StreamOver, SectionOver}
use Rattle.fv_tree.specs.Words.{VolumeOver, MeansContent, MeansFile, FileForm, MeansSection, Stream, Denotes, Accepted}
use Rattle.fv_canon.specs.Words.{IsImage, MeanSame, SameMeaningIffSameImage, ImageKeepsLengthAndMeaning, ImageIsItsOwnImage, OneMeaning}
use Rattle.fv_tree.proofs.Laws.{one_meaning}
use Rattle.fv_canon.proofs.OneImageLaws.{image_length, image_one}
use Rattle.fv_canon.proofs.VolumeImageLaws.{image_denotes, volume_of}

-- ---- bytes that are a volume at a depth are a volume at every greater depth
-- if a relation holds for each pair of items of two lists, a weaker relation holds for each pair too
pub pairs_more : {A B : Type 0} (p q : A → B → Type 0) → ((x : A) (y : B) → p x y → q x y) → (xs : List A) (ys : List B) → Pairwise p xs ys
    → Pairwise q xs ys
pairs_more p q more [] [] h = tt
pairs_more p q more (x ∷ xs) (y ∷ ys) h = (more x y h.0, pairs_more p q more xs ys h.1)
pairs_more p q more xs ys h = absurd h

pub stream_more : (p q : SectionRelation) → ((f : FrameForm) (s : SectionMeaning) → p f s → q f s) → (ss : List SectionMeaning) (n : ℕ) (b : List ℕ)
    → StreamOver p ss n b → StreamOver q ss n b
stream_more p q more ss n b (fs, split, pairs) = (fs, split, pairs_more p q more fs ss pairs)

module _ (p q : StreamRelation) (more : (ss : List SectionMeaning) (n : ℕ) (b : List ℕ) → p ss n b → q ss n b) where
  content_more : (kind : ℕ) (payload : List ℕ) (c : ContentMeaning) → MeansContent p kind payload c → MeansContent q kind payload c
  content_more kind payload (Plain b) h = h
  content_more kind payload (Sectioned ss n) h = (h.0, more (sections_list ss) n payload h.1)

  file_more : (f : FileForm) (m : FileMeaning) → MeansFile p f m → MeansFile q f m
  file_more f (File name kind attributes content) (a, b, c, d) = (a, b, c, content_more kind f.payload content d)

  volume_more : (b : List ℕ) (m : Meaning) → VolumeOver p b m → VolumeOver q b m
  volume_more b m d =
      volume_of q b m d.extent d.files d.begins d.length_is (record { cells = d.cells; tiles = d.tiles; current = d.current })
      (pairs_more (MeansFile p) (MeansFile q) file_more d.files (files_of m) d.meanings)

  section_more : (v w : VolumeRelation) → ((b : List ℕ) (m : Meaning) → v b m → w b m) → (f : FrameForm) (s : SectionMeaning)
      → SectionOver p v f s → SectionOver q w f s
  section_more v w volumes f (Section kind extended (Leaf b)) h = h
  section_more v w volumes f (Section kind extended (Group ss n)) (a, b, (c, d)) = (a, b, (c, more (sections_list ss) n f.body d))
  section_more v w volumes f (Section kind extended (Nested m)) (a, b, (c, d, e)) = (a, b, (c, d, volumes f.body m e))

pub sections_more : (n : ℕ) (f : FrameForm) (s : SectionMeaning) → MeansSection n f s → MeansSection (suc n) f s
sections_more zero = section_more (λ _ _ _. ⊥) (Stream zero) (λ ss n b h. absurd h) (λ _ _. ⊥) (Denotes zero) (λ b m h. absurd h)
sections_more (suc n) =
    let streams = stream_more (MeansSection n) (MeansSection (suc n)) (sections_more n) in
    section_more (Stream n) (Stream (suc n)) streams (Denotes n) (Denotes (suc n)) (volume_more (Stream n) (Stream (suc n)) streams)

one_deeper : (n : ℕ) (b : List ℕ) (m : Meaning) → Denotes n b m → Denotes (suc n) b m
one_deeper n b m d = volume_more (Stream n) (Stream (suc n)) (stream_more (MeansSection n) (MeansSection (suc n)) (sections_more n)) b m d

to_limit : (k n : ℕ) (b : List ℕ) (m : Meaning) → k + n ≡ depth_limit → Denotes n b m → Denotes depth_limit b m
to_limit zero n b m e d = let same : n ≡ depth_limit = omega (arith, e) in subst (λ (i : ℕ). Denotes i b m) same d
to_limit (suc k) n b m e d = to_limit k (suc n) b m (omega (arith, e)) (one_deeper n b m d)

-- bytes that are a volume at a depth within the limit are accepted
pub accepted : (n : ℕ) (b : List ℕ) (m : Meaning) → IsBytes b → n ≤ depth_limit → Denotes n b m → Accepted b m
accepted n b m small l d = (small, to_limit (depth_limit - n) n b m (omega (arith, l)) d)

-- ---- one reading

-- bytes are a volume of at most one meaning
pub one_reading : (b : List ℕ) (m k : Meaning) → Accepted b m → Accepted b k → m ≡ k
one_reading b m k (small, d) (little, e) = one_meaning 8 8 b m k d e

-- so two volumes mean the same exactly if their meanings are equal
pub same_reading : (a b : List ℕ) (m k : Meaning) → Accepted a m → Accepted b k → (MeanSame a b → m ≡ k) × (m ≡ k → MeanSame a b)
same_reading a b m k d e =
    (λ (j, of_a, of_b). sym (one_reading a j m of_a d) ∙ one_reading b j k of_b e, λ one. (m, d, rw one e))

-- ---- the headline

-- the image of a meaning that some bytes have is a volume of this meaning
pub image_read : (m : Meaning) (a image : List ℕ) → Accepted a m → IsImage m image → Accepted image m
image_read m a image (small, means) is = let again = image_denotes 8 m a image small means is in (again.1, again.0)

pub same_meaning_iff_same_image : SameMeaningIffSameImage
same_meaning_iff_same_image a b image other (m, d, is) (k, d', is') =
    let reading = same_reading a b m k d d' in
    let again = λ (same : image ≡ other). one_reading other m k (rw same at (image_read m a image d is)) (image_read k b other d' is') in
    (λ same. image_one k image other (rw (reading.0 same) at is) is', λ same. reading.1 (again same))

pub image_keeps_length_and_meaning : ImageKeepsLengthAndMeaning
image_keeps_length_and_meaning a image (m, d, is) =
    (image_length m image is ∙ sym (d.1.length_is ∙ d.1.begins.length_is), (m, d, image_read m a image d is))

pub image_is_its_own_image : ImageIsItsOwnImage
image_is_its_own_image a image (m, d, is) = (m, image_read m a image d is, is)

pub one_meaning_of : OneMeaning
one_meaning_of m other image (n, l, b, small, d) (k, l', c, little, d') is is' =
    one_meaning k n image other m (image_denotes k other c image little d' is').0 (image_denotes n m b image small d is).0
