-- Bytes have at most one meaning. The steps:
-- 1. The files that are stored in a volume are one list (`one_stand`), and at most one list agrees with them item by
--    item (`pairs_one`).
-- 2. If each part inside has at most one meaning, then so have a content, a file, a volume and a section
--    (`content_one`, `file_one`, `volume_one`, `section_one`).
-- 3. By induction on the nesting depth each section has at most one meaning (`sections_one`), and so has each volume
--    (`one_meaning`, `one_beginning`).
use Rattle.std.proofs.Common.{◌≡◌, ◌≤◌, ℕ, [], ◌∷◌, zero, suc, true, false, List, length, take, refl, sym, ap, ◌∙◌, subst, arith, rules}
use Rattle.fv_base.proofs.Laws.{common_steps}
use Rattle.fv_file.proofs.Laws.{only_one}
use Rattle.fv_head.specs.declared.extent.Extent.{Extent}
use Rattle.fv_head.proofs.Laws.{one_front}
use Rattle.fv_section.specs.Words.{FrameForm}
use Rattle.fv_section.proofs.Laws.{one_split}
use Rattle.fv_tree.specs.Words.{AreFilesOf, FileForm, Meaning, Volume, FileMeanings, NoFiles, MoreFiles, FileMeaning, ContentMeaning, Plain}
use Rattle.fv_tree.specs.Words.{Sectioned, files_from, sections_from, files_list, SectionMeanings, NoSections, MoreSections, SectionMeaning}
use Rattle.fv_tree.specs.Words.{BodyMeaning, Leaf, Group, Nested, sections_list, SectionRelation, StreamRelation, VolumeRelation, Pairwise}
use Rattle.fv_tree.specs.Words.{StreamOver, SectionOver, VolumeOver, MeansBody, MeansContent, MeansFile, MeansSection, Stream, Denotes}
use Rattle.fv_tree.proofs.SectionShapeLaws.{group_is_no_volume}
use Rattle.fv_tree.proofs.VolumePartLaws.{front_of, has_files, has_of}

-- two lists of files that are stored in a volume are equal
pub one_stand : (e : Extent) (volume : List ℕ) (fs gs : List FileForm) → AreFilesOf e volume fs → AreFilesOf e volume gs → gs ≡ fs
one_stand e volume fs gs h k = grind (arith, common_steps, only_one)

-- ---- the statements about the parts inside

abbrev SectionsOne : SectionRelation → SectionRelation → Type 0
SectionsOne p q = (f : FrameForm) (s t : SectionMeaning) → p f s → q f t → s ≡ t

abbrev StreamsOne : StreamRelation → StreamRelation → Type 0
StreamsOne p q = (ss ts : SectionMeanings) (n k : ℕ) (b : List ℕ) → p (sections_list ss) n b → q (sections_list ts) k b → (ss ≡ ts) × (n ≡ k)

abbrev VolumesOne : VolumeRelation → VolumeRelation → Type 0
VolumesOne p q = (b : List ℕ) (m k : Meaning) → p b m → q b k → m ≡ k

-- `files_from` undoes `files_list`, and `sections_from` undoes `sections_list`
files_back : (fs : FileMeanings) → files_from (files_list fs) ≡ fs
files_back NoFiles = refl
files_back (MoreFiles f fs) = ap (λ l. MoreFiles f l) (files_back fs)

sections_back : (ss : SectionMeanings) → sections_from (sections_list ss) ≡ ss
sections_back NoSections = refl
sections_back (MoreSections s ss) = ap (λ l. MoreSections s l) (sections_back ss)

-- so sections with the same list are the same
same_sections : (xs ys : SectionMeanings) → sections_list xs ≡ sections_list ys → xs ≡ ys
same_sections xs ys e = sym (sections_back xs) ∙ ap sections_from e ∙ sections_back ys

pairs_one : {A B : Type 0} (p q : A → B → Type 0) → ((x : A) (y z : B) → p x y → q x z → y ≡ z) → (xs : List A) (ys zs : List B)
    → Pairwise p xs ys → Pairwise q xs zs → ys ≡ zs
pairs_one p q one [] [] [] h k = refl
pairs_one p q one (x ∷ xs) (y ∷ ys) (z ∷ zs) h k = cc (one x y z h.0 k.0, pairs_one p q one xs ys zs h.1 k.1)
pairs_one p q one _ _ _ h k = absurd assumption

stream_one : (p q : SectionRelation) → SectionsOne p q → StreamsOne (StreamOver p) (StreamOver q)
stream_one p q one ss ts n k b (fs, split, pairs) (gs, split', pairs') = grind (arith, common_steps, one_split, pairs_one, same_sections)

-- ---- a content, a file and a volume, given the same of their streams

module _ (s s' : StreamRelation) (streams : StreamsOne s s') where
  content_one : (kind : ℕ) (payload : List ℕ) (c d : ContentMeaning) → MeansContent s kind payload c → MeansContent s' kind payload d → c ≡ d
  content_one kind payload (Plain b) (Plain c) (p, is) (p', is') = ap Plain (is ∙ sym is')
  content_one kind payload (Plain b) (Sectioned ts k) (none, is) (some, inside) = let t : false ≡ true = sym none ∙ some in cc
  content_one kind payload (Sectioned ss n) (Plain c) (some, inside) (none, is) = let t : false ≡ true = sym none ∙ some in cc
  content_one kind payload (Sectioned ss n) (Sectioned ts k) (p, inside) (p', inside') =
      let same = streams ss ts n k payload inside inside' in cc

  file_one : (f : FileForm) (m k : FileMeaning) → MeansFile s f m → MeansFile s' f k → m ≡ k
  file_one f m k means_file other_means_file = grind (arith, common_steps, content_one) steps 150000

  volume_one : VolumesOne (VolumeOver s) (VolumeOver s')
  volume_one b (Volume h fs) (Volume k gs) d d' =
      let heads = one_front b h k d.extent d'.extent d.begins d'.begins in
      let (xs, stand, pairs) = has_of s b (Volume h fs) d in
      let (ys, stand', pairs') = has_of s' b (Volume k gs) d' in
      let forms = one_stand d.extent b xs ys stand (subst (λ (x : Extent). AreFilesOf x b ys) (sym heads.1) stand') in
      let lists = pairs_one (MeansFile s) (MeansFile s') file_one xs (files_list fs) (files_list gs) pairs (rw forms at pairs') in
      cc (heads.0, ap files_from lists, files_back fs, files_back gs)

  module _ (v v' : VolumeRelation) (volumes : VolumesOne v v') where
    body_one : (f : FrameForm) (b c : BodyMeaning) → MeansBody s v f b → MeansBody s' v' f c → b ≡ c
    body_one f (Leaf b) (Leaf c) (_, _, is) (_, _, is') = ap Leaf (is ∙ sym is')
    body_one f (Group ss n) (Group ts k) (_, inside) (_, inside') = let same = streams ss ts n k f.body inside inside' in cc
    body_one f (Nested m) (Nested k) (_, _, d) (_, _, d') = ap Nested (volumes f.body m k d d')
    body_one f _ _ means other_means = absurd (search (rules, group_is_no_volume))

    section_one : SectionsOne (SectionOver s v) (SectionOver s' v')
    section_one f s t means other_means = grind (arith, common_steps, body_one) steps 150000

-- ---- the recursion

sections_one : (n k : ℕ) → SectionsOne (MeansSection n) (MeansSection k)
sections_one zero zero = section_one (λ _ _ _. ⊥) (λ _ _ _. ⊥) (λ _ _ _ _ _ h _. absurd h) (λ _ _. ⊥) (λ _ _. ⊥) (λ _ _ _ h _. absurd h)
sections_one zero (suc k) = section_one (λ _ _ _. ⊥) (Stream k) (λ _ _ _ _ _ h _. absurd h) (λ _ _. ⊥) (Denotes k) (λ _ _ _ h _. absurd h)
sections_one (suc n) zero = section_one (Stream n) (λ _ _ _. ⊥) (λ _ _ _ _ _ _ h. absurd h) (Denotes n) (λ _ _. ⊥) (λ _ _ _ _ h. absurd h)
sections_one (suc n) (suc k) =
    let streams = stream_one (MeansSection n) (MeansSection k) (sections_one n k) in
    section_one (Stream n) (Stream k) streams (Denotes n) (Denotes k) (volume_one (Stream n) (Stream k) streams)

-- bytes are a volume of at most one meaning
pub one_meaning : (n k : ℕ) (b : List ℕ) (m j : Meaning) → Denotes n b m → Denotes k b j → m ≡ j
one_meaning n k = volume_one (Stream n) (Stream k) (stream_one (MeansSection n) (MeansSection k) (sections_one n k))

-- bytes are a stream of at most one list of sections
pub one_stream : (n k : ℕ) (ss ts : List SectionMeaning) (t u : ℕ) (b : List ℕ) → Stream n ss t b → Stream k ts u b → (ss ≡ ts) × (t ≡ u)
one_stream n k ss ts t u b (fs, split, pairs) (gs, split', pairs') =
    let same = one_split 0 gs fs u t b split' split in
    (pairs_one (MeansSection n) (MeansSection k) (sections_one n k) fs ss ts pairs (rw same.0 at pairs'), sym same.1)

-- bytes begin with at most one volume
pub one_beginning : (n k j : ℕ) (b : List ℕ) (m v : Meaning) → k ≤ length b → Denotes n (take k b) m → j ≤ length b → Denotes n (take j b) v
    → (m ≡ v) × (k ≡ j)
one_beginning n k j b m v within d within' d' =
    let front = front_of n j b v within' d' in
    let len : k ≡ j = (has_files n k b m _ d'.extent front.0 within d).1 ∙ front.1 in
    (one_meaning n n (take j b) m v (rw len at d) d', len)
