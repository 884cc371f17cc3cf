-- The tolerant reading agrees with the strict reading at every depth: a volume has a meaning exactly if it is read
-- without findings, apart from volumes that are found and from the data of superseded files. The steps:
-- 1. By induction over the levels to which groups and opened volumes may nest: a section with a meaning is read
--    without findings (`section_is_clean`), and a section that is read without findings has a meaning
--    (`section_has_meaning`).
-- 2. So this is true of streams and of volumes (`stream_is_clean`, `volume_is_clean`, `stream_has_meaning`,
--    `volume_has_meaning`).
use Rattle.std.proofs.Common.{ℕ, zero, suc, List}
use Rattle.fv_base.proofs.Laws.{IsBytes}
use Rattle.fv_section.specs.Words.{FrameForm}
use Rattle.fv_tree.specs.Words.{Denotes, Meaning, MeansSection, SectionMeaning, Stream}
use Rattle.fv_survey.proofs.CleanSectionLaws.{body_clean, body_means, stream_clean, stream_means}
use Rattle.fv_survey.proofs.CleanVolumeLaws.{volume_clean, volume_means}
use Rattle.fv_survey.specs.Words.{CleanAt, IsCleanStream, IsCleanVolume, body_form}

-- ---- what has a meaning is read without findings

-- the body of a section with a meaning has no findings
section_is_clean : (n : ℕ) (f : FrameForm) (s : SectionMeaning) → MeansSection n f s → CleanAt n (body_form f.kind f.body) f.body
section_is_clean zero f s means =
    body_clean (λ _ _ _. ⊥) (λ _ _. ⊥) (λ _. ⊥) (λ _. ⊥) (λ ss tail b never. never) (λ b m opens never. never) f s means
section_is_clean (suc n) f s means =
    body_clean (Stream n) (Denotes n) (IsCleanStream n) (IsCleanVolume n) (stream_clean (MeansSection n) (CleanAt n) (section_is_clean n))
    (λ b m opens v. volume_clean (Stream n) (IsCleanStream n)
    (stream_clean (MeansSection n) (CleanAt n) (section_is_clean n)) b m v) f s means

-- a stream with a meaning has no findings
pub stream_is_clean : (n : ℕ) (ss : List SectionMeaning) (tail : ℕ) (b : List ℕ) → Stream n ss tail b → IsCleanStream n b
stream_is_clean n = stream_clean (MeansSection n) (CleanAt n) (section_is_clean n)

-- a volume with a meaning has no findings
pub volume_is_clean : (n : ℕ) (b : List ℕ) (m : Meaning) → Denotes n b m → IsCleanVolume n b
volume_is_clean n = volume_clean (Stream n) (IsCleanStream n) (stream_is_clean n)

-- ---- what is read without findings has a meaning

-- a section whose body has no findings has a meaning
section_has_meaning : (n : ℕ) (f : FrameForm) → IsBytes f.body → CleanAt n (body_form f.kind f.body) f.body
    → (s : SectionMeaning) × MeansSection n f s
section_has_meaning zero f small clean =
    body_means (λ _ _ _. ⊥) (λ _ _. ⊥) (λ _. ⊥) (λ _. ⊥) (λ b small never. absurd never) (λ b small never. absurd never) f small clean
section_has_meaning (suc n) f small clean =
    body_means (Stream n) (Denotes n) (IsCleanStream n) (IsCleanVolume n)
    (stream_means (MeansSection n) (CleanAt n) (section_has_meaning n))
    (volume_means (Stream n) (IsCleanStream n) (stream_means (MeansSection n) (CleanAt n) (section_has_meaning n))) f small clean

-- a stream without findings has a meaning
pub stream_has_meaning : (n : ℕ) (b : List ℕ) → IsBytes b → IsCleanStream n b
    → (ss : List SectionMeaning) × (tail : ℕ) × Stream n ss tail b
stream_has_meaning n = stream_means (MeansSection n) (CleanAt n) (section_has_meaning n)

-- a volume without findings has a meaning
pub volume_has_meaning : (n : ℕ) (b : List ℕ) → IsBytes b → IsCleanVolume n b → (m : Meaning) × Denotes n b m
volume_has_meaning n = volume_means (Stream n) (IsCleanStream n) (stream_has_meaning n)
