-- Facts for the search for the first difference of two volumes: their headers differ, or their numbers of files differ.
use Rattle.std.proofs.Common.{◌≡◌, ℕ, ◌≤◌, [], ◌∷◌, List, length, drop, min, refl, ◌∙◌, arith, ◌-◌}
use Rattle.fv_base.proofs.Laws.{length-drop, Option, Some}
use Rattle.fv_head.specs.Words.{HeadFields}
use Rattle.fv_tree.specs.Words.{differ_in, head_differs, difference, files_differ, Meaning, Volume, FileMeaning, head_of, files_from}
use Rattle.fv_tree.specs.declared.difference.DifferenceKind.{DifferenceKind}
use Rattle.fv_tree.specs.inner.FoundDifferences.{in_kind}
use Rattle.fv_tree.specs.declared.difference.DifferenceKind.TheVariants as kinds

-- ---- after the last items that both lists have

-- if one of two lists is empty and the other is not, the difference is FileCount
uneven : (i : ℕ) (fs gs : List FileMeaning) → min (length fs) (length gs) ≡ 0 → (length fs ≡ length gs → ⊥)
    → files_differ i (files_from fs) (files_from gs) ≡ differ_in kinds.FileCount
uneven i [] [] one ne = absurd (ne refl)
uneven i [] (g ∷ gs) one ne = refl
uneven i (f ∷ fs) [] one ne = refl
uneven i (f ∷ fs) (g ∷ gs) one ne = absurd (omega (arith, one))

-- if the search passed all files that both volumes have, and the volumes have different numbers of files, the
-- difference is FileCount
pub files_uneven : (fs gs : List FileMeaning) (i : ℕ) → min (length fs) (length gs) ≤ i → i ≤ min (length fs) (length gs)
    → (length fs ≡ length gs → ⊥)
    → files_differ 0 (files_from fs) (files_from gs) ≡ files_differ i (files_from (drop i fs)) (files_from (drop i gs))
    → files_differ 0 (files_from fs) (files_from gs) ≡ differ_in kinds.FileCount
files_uneven fs gs i past within ne e =
    let (f, g) : (length (drop i fs) ≡ length fs - i) × (length (drop i gs) ≡ length gs - i) = (length-drop i fs, length-drop i gs) in
    e ∙ uneven i (drop i fs) (drop i gs) (omega arith) (λ same. ne (omega arith))

-- ---- volumes

-- if the headers differ, the difference of the headers is the difference of the volumes
pub volume_word : (v w : Meaning) (h g : HeadFields) (o : Option DifferenceKind) (word : DifferenceKind) → h ≡ head_of v → g ≡ head_of w
    → in_kind o ≡ head_differs h g → o ≡ Some word → difference v w ≡ differ_in word
volume_word (Volume a fs) (Volume b gs) h g o word x y said is = rw (← x, ← y, ← said, is)
