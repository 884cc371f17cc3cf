-- A walk over the sections of a stream that was read and laid out puts the stream of the canonical image. The steps:
-- 1. The body of a section fits the form of the section's header (`section_fits`), and has the length that the layout
--    assumed (`section_laid`).
-- 2. The bytes of all sections, followed by the tail, are the stream (`stream_whole`).
-- 3. For each section, the walk puts the filler before the section, the section's header and the section's body
--    (`goes_on`, `front_more`).
-- 4. At the end the walk puts the tail (`front_end`), or nothing if there are no sections (`front_none`).
use Rattle.std.proofs.Common.{◌≡◌, ◌<◌, ◌+◌, ◌-◌, ◌^◌, ℕ, zero, suc, Bool, [], ◌∷◌, ◌++◌, List, length, drop, replicate, sym, ap, ◌∙◌, subst, arith}
use Rattle.std.proofs.Common.{append_assoc, append-nil, length-drop}
use Rattle.fv_base.proofs.Laws.{common_steps, WalkLaws, bytes_drop}
use Rattle.fv_section.specs.Words.{FrameForm, frame_len, up_to_4, FitsForm, section_head_of, stream_of}
use Rattle.fv_section.proofs.Laws.{begun_bytes, fits, length_begun}
use Rattle.fv_tree.specs.Words.{BodyMeaning, MeansSection, SectionMeanings, NoSections, MoreSections, SectionMeaning, Section, body_len}
use Rattle.fv_tree.specs.Words.{sections_from, body_of, section_is_extended, section_kind_of, section_len, IsReadSection, volumes_in_section}
use Rattle.fv_tree.specs.Words.{volumes_in_body}
use Rattle.fv_canon.specs.inner.ImageOf.{written_frames, frame_of, body_image, starts_in}
use Rattle.fv_canon.proofs.ImageParts.{sections_bytes, TakesFront}
use Rattle.fv_canon.specs.Words.{BeginsWithStarts, IsBodyImage}
use Rattle.fv_tree.proofs.Laws.{body_long, in_section, section_long}
use Rattle.fv_canon.proofs.VolumeListLaws.{begins_higher, count_deeper}
use Rattle.fv_canon.proofs.WrittenImageLaws.{sections_made}
use Rattle.fv_canon.proofs.VolumeImageLaws.{sections_again}

-- ---- a section
form_is : (n kind : ℕ) (extended : Bool) (body : BodyMeaning) (f : FrameForm) → MeansSection n f (Section kind extended body) → extended ≡ f.extended
form_is zero kind extended body f is = is.1
form_is (suc n) kind extended body f is = is.1

pub section_fits : (m : SectionMeaning) → IsReadSection m → FitsForm (section_is_extended m) (body_len (body_of m)) × (section_len m < 2 ^ 32)
section_fits (Section kind extended body) (n, l, f, (b, small, most, stands), is) =
    let part : List ℕ = drop f.offset b in
    let form = form_is n kind extended body f is in (
      rw (form, ← body_long n f kind body (rw form at is)) (fits f part stands.rest (bytes_drop f.offset b small) stands.begins),
      omega (arith, section_long n f (Section kind extended body) is, length_begun f part stands.rest stands.begins, length-drop f.offset b, most),
    )

-- the body that a walk writes is the section's body in the image, and has the length that the layout assumed
pub section_laid : (m : SectionMeaning) (starts : List ℕ) → IsReadSection m → BeginsWithStarts (volumes_in_section m) starts
    → IsBodyImage (body_of m) (body_image (body_of m) starts) × (length (body_image (body_of m) starts) ≡ body_len (body_of m))
section_laid (Section kind extended body) starts (n, l, f, (b, small, most, stands), is) begins =
    let m : SectionMeaning = Section kind extended body in
    let bytes = (begun_bytes f (drop f.offset b) stands.rest (bytes_drop f.offset b small) stands.begins).0 in
    let image = sections_made n m f 0 starts bytes is begins in
    let whole = section_long n (frame_of 0 m starts) m (sections_again n m f (frame_of 0 m starts) bytes is image).0 in
    (image.2, omega (arith, whole))

-- ---- a stream, wherever its first section begins
stream_whole : (at : ℕ) (s : SectionMeaning) (ss : SectionMeanings) (starts : List ℕ) (tail : ℕ)
    → stream_of (written_frames at (MoreSections s ss) starts) tail ≡ sections_bytes 0 (MoreSections s ss) starts ++ replicate tail 0
stream_whole at (Section k e b) NoSections starts tail = simp append_assoc
stream_whole at (Section k e b) (MoreSections t ss) starts tail =
    let s : SectionMeaning = Section k e b in
    rw (stream_whole (up_to_4 (at + frame_len (frame_of 0 s starts))) t ss (drop (starts_in (volumes_in_section s)) starts) tail)
    (simp append_assoc)

-- ---- the walk over the sections of a stream

-- a section has as many starts as its body
pub in_body : (s : SectionMeaning) → starts_in (volumes_in_section s) ≡ starts_in (volumes_in_body (body_of s))
in_body s = ap starts_in (in_section s) ∙ count_deeper (volumes_in_body (body_of s))

-- starts that begin with the starts of a section begin with the starts of its body
pub body_laid : (s : SectionMeaning) (starts : List ℕ) → BeginsWithStarts (volumes_in_section s) starts
    → BeginsWithStarts (volumes_in_body (body_of s)) starts
body_laid (Section kind extended body) starts begins = begins_higher (volumes_in_body body) starts begins

-- the bytes that are left at a section are its filler, its header and its body, and then the sections after it
pub goes_on : (left rest : List SectionMeaning) (s : SectionMeaning) (starts : List ℕ) (gap : ℕ) → left ≡ s ∷ rest
    → length (body_image (body_of s) starts) ≡ body_len (body_of s)
    → sections_bytes gap (sections_from left) starts
    ≡ (replicate gap 0
    ++ (section_head_of (section_kind_of s) (section_is_extended s) (body_len (body_of s)) ++ body_image (body_of s) starts))
    ++ sections_bytes (up_to_4 (section_len s) - section_len s) (sections_from rest) (drop (starts_in (volumes_in_section s)) starts)
goes_on left rest (Section kind extended body) starts gap is long = rw (is, long)

-- after three pieces are put, the bytes after these pieces are left
pub front_more : {S : Type 0} (takes : S → List ℕ → S → Type 0) → WalkLaws takes → (s t u v w : S) (whole rest a b c left : List ℕ)
    → TakesFront takes s t whole rest → rest ≡ (a ++ (b ++ c)) ++ left → takes t a u → takes u b v → takes v c w
    → TakesFront takes s w whole left
front_more takes laws s t u v w whole rest a b c left f e p q r = grind (arith, common_steps, append_assoc f.front (a ++ (b ++ c)) left) steps 400000

-- after the last section the bytes of the tail are put
pub front_end : {S : Type 0} (takes : S → List ℕ → S → Type 0) → WalkLaws takes
    → (ss left : List SectionMeaning) (s t u : S) (gap : ℕ) (starts rest : List ℕ) (tail : ℕ) → left ≡ [] → 0 < length ss
    → TakesFront takes s t (sections_bytes 0 (sections_from ss) starts) (sections_bytes gap (sections_from left) rest)
    → takes t (replicate tail 0) u → takes s (stream_of (written_frames 0 (sections_from ss) starts) tail) u
front_end takes laws [] left s t u gap starts rest tail none some f p = absurd (omega (arith, some))
front_end takes laws (x ∷ xs) left s t u gap starts rest tail none some f p =
    let g = rw (none, append-nil) at f.whole_is in rw (stream_whole 0 x (sections_from xs) starts tail, ← g) (laws.joined f.taken p)

-- if the stream has no sections, nothing is put
pub front_none : {S : Type 0} (takes : S → List ℕ → S → Type 0) (ss left : List SectionMeaning) (s t : S) (gap : ℕ)
    (starts rest : List ℕ) (tail : ℕ) → left ≡ [] → left ≡ ss
    → TakesFront takes s t (sections_bytes 0 (sections_from ss) starts) (sections_bytes gap (sections_from left) rest)
    → takes s (stream_of (written_frames 0 (sections_from ss) starts) tail) t
front_none takes [] [] s t gap starts rest tail none same f = subst (λ ys. takes s ys t) (sym (append-nil f.front) ∙ f.whole_is) f.taken
front_none takes ss left s t gap starts rest tail none same f = absurd (grind arith)
