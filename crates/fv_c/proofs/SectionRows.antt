-- Proves that a stream has a frame if it has a section (`has_frame`) or a row (`row_frame`), and that a stream without
-- sections has no rows (`none_rows`) and no digests (`none_digests`).
use Rattle.std.proofs.Common.{◌≡◌, ◌≢◌, ◌<◌, ℕ, [], ◌∷◌, List, arith, length, refl}
use Rattle.fv_base.specs.Words.{depth_limit}
use Rattle.fv_tree.specs.Words.{AcceptedStream, HasFrame, MeansSection, Pairwise, SectionMeaning, sections_from}
use Rattle.fv_rows.specs.Words.{rows_of_sections}
use Rattle.fv_c.specs.ReportedDigests.{HasDigests}
use Rattle.fv_c.specs.ReportedSections.{HasSectionRows}
use Rattle.fv_c.specs.declared.input.Form.TheVariants.{Stream}

no_pairs : {A B : Type 0} (R : A → B → Type 0) (ys : List B) → Pairwise R [] ys → ys ≡ []
no_pairs R [] pairs = refl
no_pairs R (y ∷ ys) pairs = absurd pairs

-- a stream with a section has a frame
pub has_frame : (ss : List SectionMeaning) (tail : ℕ) (b : List ℕ) → AcceptedStream ss tail b → ss ≢ [] → HasFrame b
has_frame ss tail b is some =
    let (frames, split, pairs) = is.stream in
    (frames, tail, split, λ none. some (no_pairs (MeansSection depth_limit) ss (rw none at pairs)))

-- a stream with a row has a frame
pub row_frame : (ss : List SectionMeaning) (tail : ℕ) (b : List ℕ) (row : ℕ) → AcceptedStream ss tail b
    → row < length (rows_of_sections 0 0 0 (sections_from ss)) → HasFrame b
row_frame [] tail b row is less = absurd (omega (arith, less))
row_frame (s ∷ ss) tail b row is less = has_frame (s ∷ ss) tail b is (λ none. cc)

-- ---- a stream without sections

-- such a stream has no rows and no digests
pub none_rows : (input : List ℕ) (ss : List SectionMeaning) (tail : ℕ) → AcceptedStream ss tail input → ss ≡ [] → HasSectionRows input []
none_rows input ss tail is none = record { sections = ss; tail = tail; stream = is; nodes = rw none tt }

pub none_digests : (input : List ℕ) (ss : List SectionMeaning) (tail : ℕ) → AcceptedStream ss tail input → ss ≡ [] → HasDigests Stream input []
none_digests input ss tail is none = (_, (ss, tail, is, refl), rw none tt)
