-- A stream, a section, a body and a content have the length of the bytes that they were read from.
use Rattle.std.proofs.lemmas.Grind.{common_steps}
use Rattle.std.proofs.Common.{◌≡◌, ℕ, ◌+◌, [], ◌∷◌, ◌++◌, zero, suc, List, length, refl, sym, ap, ◌∙◌, arith, length-append}
use Rattle.fv_base.specs.declared.guid.Guid.{Guid}
use Rattle.fv_section.specs.Words.{FrameForm, SplitsFrom, frame_len, up_to_4}
use Rattle.fv_section.proofs.Laws.{length_begun}
use Rattle.fv_tree.specs.Words.{Pairwise, SectionRelation, StreamRelation, VolumeRelation, StreamOver, VolumeOver, SectionOver, MeansSection, Stream}
use Rattle.fv_tree.specs.Words.{Denotes, MeansFile, Meaning, Volume, File, ContentMeaning, Plain, Sectioned, SectionMeaning, Section, SectionMeanings}
use Rattle.fv_tree.specs.Words.{NoSections, MoreSections, BodyMeaning, sections_list, body_len, section_len, sections_end, content_len, length_of}
use Rattle.fv_tree.specs.Words.{FileForm}

-- a section has the length of its frame
abbrev pub AsLong : SectionRelation → Type 0
AsLong R = (f : FrameForm) (s : SectionMeaning) → R f s → section_len s ≡ frame_len f

-- sections that follow other sections, which end at `end`, and the tail after them end where the bytes b end, if each
-- section has the length of its frame
from_long : (R : SectionRelation) → AsLong R → (at end : ℕ) (f : FrameForm) (fs : List FrameForm) (s : SectionMeaning) (ss : SectionMeanings)
    (tail : ℕ) (b : List ℕ) → up_to_4 end ≡ at → SplitsFrom at (f ∷ fs) tail b → Pairwise R (f ∷ fs) (s ∷ sections_list ss)
    → sections_end end (MoreSections s ss) + tail ≡ at + length b
from_long R each at end f [] s NoSections tail b e (rest, begun, o, t, most) (r, _) =
    omega (arith, e, each f s r, length_begun f b rest begun, t)
from_long R each at end f (g ∷ gs) s (MoreSections u us) tail b e (filler, rest, begun, o, fill, more) (r, p) =
    let here : up_to_4 end + section_len s ≡ at + frame_len f = omega (arith, e, each f s r) in
    let go = from_long R each (up_to_4 (at + frame_len f)) (at + frame_len f) g gs u us tail rest refl more p in
    rw here (go ∙ omega (arith, length_begun f b (filler ++ rest) begun, length-append filler rest, fill))
from_long R each at end f _ s _ tail b e from (r, p) = absurd p

-- the sections of a stream and its tail have the length of the stream
pub stream_long : (R : SectionRelation) → AsLong R → (ss : SectionMeanings) (tail : ℕ) (b : List ℕ) → StreamOver R (sections_list ss) tail b
    → sections_end 0 ss + tail ≡ length b
stream_long R each NoSections tail b ([], split, p) = omega (arith, split.1, ap length split.0)
stream_long R each (MoreSections s ss) tail b (f ∷ fs, split, p) = let z = from_long R each 0 0 f fs s ss tail b refl split p in omega (arith, z)
stream_long R each _ tail b (_, split, p) = absurd p

pub volume_long : (S : StreamRelation) (b : List ℕ) (m : Meaning) → VolumeOver S b m → length_of m ≡ length b
volume_long S b (Volume h fs) d = sym (d.length_is ∙ d.begins.length_is)

section_long_over : (S : StreamRelation) (V : VolumeRelation)
    → ((ss : SectionMeanings) (t : ℕ) (b : List ℕ) → S (sections_list ss) t b → sections_end 0 ss + t ≡ length b)
    → ((b : List ℕ) (v : Meaning) → V b v → length_of v ≡ length b) → AsLong (SectionOver S V)
section_long_over S V stream volume f s means = grind (arith, common_steps) steps 150000

pub section_long : (n : ℕ) → AsLong (MeansSection n)
section_long zero = section_long_over (λ _ _ _. ⊥) (λ _ _. ⊥) (λ ss t b h. absurd h) (λ b v h. absurd h)
section_long (suc n) = section_long_over (Stream n) (Denotes n) (stream_long (MeansSection n) (section_long n)) (volume_long (Stream n))

-- the body of a section has the length of its frame's body
pub body_long : (n : ℕ) (f : FrameForm) (k : ℕ) (body : BodyMeaning) → MeansSection n f (Section k f.extended body)
    → length f.body ≡ body_len body
body_long n f k body h = let z = section_long n f (Section k f.extended body) h in omega (arith, z)

-- the content of a file has the length of the file's data
pub content_long : (n : ℕ) (f : FileForm) (name : Guid) (k a : ℕ) (c : ContentMeaning) → MeansFile (Stream n) f (File name k a c)
    → length f.payload ≡ content_len c
content_long n f name k a (Plain b) (p, q, r, (h, same)) = ap length (sym same)
content_long n f name k a (Sectioned ss t) (p, q, r, (h, s)) = sym (stream_long (MeansSection n) (section_long n) ss t f.payload s)
