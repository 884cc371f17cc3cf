-- The contents of a part are smaller than the part, so the recursions over a meaning end.
use Rattle.std.proofs.Common.{◌≡◌, ℕ, zero, suc, ◌+◌, ◌<◌, ◌≤◌, List, [], ◌∷◌, length, get_or, refl, sym, ap, arith}
use Rattle.fv_tree.specs.Words.{FileMeaning, File, SectionMeaning, Section, content_of, files_from, sections_from, body_of}
use Rattle.fv_tree.specs.inner.Sizes.{files_size, file_size, content_size, sections_size, section_size, body_size}

-- the size of a list of sections is the size of its first section plus the size of the sections after it plus 1
pub section_falls : (ss rest : List SectionMeaning) (s : SectionMeaning) → ss ≡ s ∷ rest
    → section_size s + sections_size (sections_from rest) + 1 ≡ sections_size (sections_from ss)
section_falls ss rest s is = sym (ap (λ us. sections_size (sections_from us)) is)

pub body_falls : (s : SectionMeaning) → section_size s ≡ body_size (body_of s) + 1
body_falls (Section k e b) = refl

pub section_body_falls : (ss rest : List SectionMeaning) (s : SectionMeaning) → ss ≡ s ∷ rest
    → body_size (body_of s) + sections_size (sections_from rest) + 2 ≡ sections_size (sections_from ss)
section_body_falls ss rest s is = omega (arith, section_falls ss rest s is, body_falls s)

pub file_falls : (fs : List FileMeaning) (i : ℕ) (f : FileMeaning) → i < length fs → f ≡ get_or fs i f
    → file_size f + 1 ≤ files_size (files_from fs)
file_falls [] i f l is = absurd (omega (arith, l))
file_falls (g ∷ fs) zero f l is = omega (arith, ap file_size is)
file_falls (g ∷ fs) (suc i) f l is = omega (arith, file_falls fs i f (omega (arith, l)) is)

pub content_falls : (f : FileMeaning) → file_size f ≡ content_size (content_of f) + 1
content_falls (File n k a c) = refl
