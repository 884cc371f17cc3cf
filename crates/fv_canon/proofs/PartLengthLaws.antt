-- If a file or a section was read and laid out, the bytes that a walk writes for the file's data or the section's body
-- are the data or the body in the image. They have the length that the meaning states (`data_laid`, `body_is`). So
-- there are bytes of this length (`data_long`, `body_long`).
use Rattle.std.proofs.Common.{◌≡◌, ℕ, List, [], append-nil, length, sym}
use Rattle.fv_tree.specs.Words.{FileMeaning, File, SectionMeaning, Section, IsReadFile, IsReadSection, body_len, body_of, content_of, data_len_of}
use Rattle.fv_tree.specs.Words.{volumes_in_body, volumes_in_content, volumes_in_section, Inside}
use Rattle.fv_canon.specs.Words.{AreStarts, BeginsWithStarts, IsBodyImage, IsData, StartsOfEach}
use Rattle.fv_canon.specs.inner.ImageOf.{body_image, written_data}
use Rattle.fv_canon.proofs.LaidFileLaws.{file_laid}
use Rattle.fv_canon.proofs.LaidSectionLaws.{section_laid}
use Rattle.fv_canon.proofs.VolumeListLaws.{laid_deeper}

-- a list that consists of the starts of the files of some volumes begins with these starts
pub begin_all : (vs : List Inside) (starts : List ℕ) → StartsOfEach AreStarts vs starts → BeginsWithStarts vs starts
begin_all vs starts laid = (starts, [], sym (append-nil starts), laid)

-- the data that a walk writes for a file that was read and laid out are the file's data in the image, and have the
-- length that the file's meaning states
pub data_laid : (m : FileMeaning) (starts : List ℕ) → IsReadFile m → BeginsWithStarts (volumes_in_content (content_of m)) starts
    → IsData (content_of m) (written_data (content_of m) starts) × (length (written_data (content_of m) starts) ≡ data_len_of m)
data_laid (File name kind attributes content) = file_laid (File name kind attributes content)

-- so a file that was read and laid out has data of this length in the image
pub data_long : (m : FileMeaning) (starts : List ℕ) → IsReadFile m → StartsOfEach AreStarts (volumes_in_content (content_of m)) starts
    → (bytes : List ℕ) × IsData (content_of m) bytes × (length bytes ≡ data_len_of m)
data_long m starts read laid = let is = data_laid m starts read (begin_all _ starts laid) in (written_data (content_of m) starts, is.0, is.1)

-- the body that a walk writes for a section that was read and laid out is the section's body in the image, and has the
-- length that the section's meaning states
pub body_is : (m : SectionMeaning) (starts : List ℕ) → IsReadSection m → StartsOfEach AreStarts (volumes_in_body (body_of m)) starts
    → IsBodyImage (body_of m) (body_image (body_of m) starts) × (length (body_image (body_of m) starts) ≡ body_len (body_of m))
body_is (Section kind extended body) starts read laid =
    let m : SectionMeaning = Section kind extended body in
    section_laid m starts read (begin_all (volumes_in_section m) starts (laid_deeper AreStarts (volumes_in_body body) starts laid))

-- so a section that was read and laid out has a body of this length in the image
pub body_long : (m : SectionMeaning) (starts : List ℕ) → IsReadSection m → StartsOfEach AreStarts (volumes_in_body (body_of m)) starts
    → (bytes : List ℕ) × IsBodyImage (body_of m) bytes × (length bytes ≡ body_len (body_of m))
body_long m starts read laid = let is = body_is m starts read laid in (body_image (body_of m) starts, is.0, is.1)
