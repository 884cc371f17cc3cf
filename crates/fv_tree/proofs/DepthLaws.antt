-- The contents of a part that was read nest at most as deep as the part, and one level less deep if the part is a group
-- or an opened volume. The volumes in a section are the volumes in its body, one level deeper.
use Rattle.std.proofs.Common.{◌≡◌, ℕ, zero, suc, List, [], ◌∷◌, refl}
use Rattle.std.specs.List.{AllByRecursion}
use Rattle.fv_section.specs.Words.{FrameForm}
use Rattle.fv_tree.specs.Words.{MeansFile, MeansSection, Pairwise, Stream, Meaning, Volume, FileMeanings, files_list, FileMeaning, File, content_of}
use Rattle.fv_tree.specs.Words.{Sectioned, SectionMeanings, SectionMeaning, Section, Group, Nested, sections_list, body_of, FileForm, deeper}
use Rattle.fv_tree.specs.Words.{volumes_in_body, volumes_in_section}
use Rattle.fv_head.specs.Words.{HeadFields}
use Rattle.fv_tree.specs.inner.NestingDepths.{NestsVolume, NestsFiles, NestsContent, NestsSections, NestsBody}

-- each item of the second list is paired with an item of the first list
each_paired : {A B : Type 0} (R : A → B → Type 0) (xs : List A) (ys : List B) → Pairwise R xs ys → AllByRecursion (λ y. (x : A) × R x y) ys
each_paired R [] [] h = tt
each_paired R (x ∷ xs) (y ∷ ys) h = ((x, h.0), each_paired R xs ys h.1)
each_paired R _ _ h = absurd h

-- the files of a volume nest no deeper than the volume
pub nests_files : (h : HeadFields) (files : FileMeanings) (n : ℕ) → NestsVolume (Volume h files) n → NestsFiles files n
nests_files h files n (b, d) = each_paired (MeansFile (Stream n)) d.files (files_list files) d.meanings

-- the data of a file nest no deeper than the file
pub nests_content : (m : FileMeaning) (n : ℕ) (f : FileForm) → MeansFile (Stream n) f m → NestsContent (content_of m) n
nests_content (File name kind attributes content) n f (a, b, c, d) = (kind, f.payload, d)

stream_nests : (ss : SectionMeanings) (tail n : ℕ) (b : List ℕ) → Stream n (sections_list ss) tail b → NestsSections ss n
stream_nests ss tail n b (frames, splits, pairs) = each_paired (MeansSection n) frames (sections_list ss) pairs

-- the sections in a file's data nest no deeper than the data
pub nests_sections : (ss : SectionMeanings) (tail n : ℕ) → NestsContent (Sectioned ss tail) n → NestsSections ss n
nests_sections ss tail n (kind, payload, (held, stream)) = stream_nests ss tail n payload stream

-- the body of a section nests no deeper than the section
pub nests_body : (s : SectionMeaning) (n : ℕ) (f : FrameForm) → MeansSection n f s → NestsBody (body_of s) n
nests_body (Section kind extended body) n f means = (f, kind, extended, means)

-- the sections of a group nest one level less deep than the group
pub nests_group : (ss : SectionMeanings) (tail n : ℕ) → NestsBody (Group ss tail) n → (k : ℕ) × (n ≡ suc k) × NestsSections ss k
nests_group ss tail zero (f, kind, extended, (a, b, (c, none))) = absurd none
nests_group ss tail (suc k) (f, kind, extended, (a, b, (c, stream))) = (k, refl, stream_nests ss tail k f.body stream)

-- the volume in a section nests one level less deep than the section
pub nests_nested : (m : Meaning) (n : ℕ) → NestsBody (Nested m) n → (k : ℕ) × (n ≡ suc k) × NestsVolume m k
nests_nested m zero (f, kind, extended, (a, b, (c, opens, none))) = absurd none
nests_nested m (suc k) (f, kind, extended, (a, b, (c, opens, volume))) = (k, refl, (f.body, volume))

-- ---- the volumes in a section

pub in_section : (s : SectionMeaning) → volumes_in_section s ≡ deeper (volumes_in_body (body_of s))
in_section (Section kind extended body) = refl
