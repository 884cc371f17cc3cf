-- A volume has at most one layout. A layout has two parts: the starts of the volume's own files, and the starts of the
-- files of the volumes inside.
use Rattle.std.proofs.Common.{◌≡◌, ℕ, List, [], ◌∷◌, ◌++◌, length, take, drop, refl, sym, ap, append-nil, ◌∙◌, subst, take-append-drop}
use Rattle.std.proofs.Common.{length-take-le, take_at}
use Rattle.fv_tree.proofs.Laws.{files_list_back}
use Rattle.fv_tree.specs.Words.{Meaning, Volume, FileMeaning, files_list, files_of, head_of, files_from, Inside, volumes_in_files}
use Rattle.fv_canon.specs.Words.{AreStarts, placement_items, StartsOfEach, AreAllStarts, LayoutParts, IsLayout}
use Rattle.fv_placement.proofs.Laws.{starts_one}
use Rattle.fv_canon.proofs.VolumeListLaws.{begins_own}

-- the volumes of a list have at most one list of starts
pub starts_same : (vs : List Inside) (a b : List ℕ) → StartsOfEach AreStarts vs a → StartsOfEach AreStarts vs b → a ≡ b
starts_same [] a b p q = p ∙ sym q
starts_same (v ∷ vs) a b (own, inner, p, placed, laid) (own', inner', q, placed', laid') =
    p ∙ (λ i. starts_one _ _ (placement_items v.volume) own own' placed placed' i ++ starts_same vs inner inner' laid laid' i) ∙ sym q

-- ---- a layout and its two parts

-- if the starts of the files of a volume and of the volumes inside it are split after the starts of the volume's own
-- files, the two parts are its layout
pub layout_is : (m : Meaning) (fs : List FileMeaning) (new : List ℕ) (l : LayoutParts) → m ≡ Volume (head_of m) (files_from fs)
    → AreAllStarts m new → l.own ≡ take (length fs) new → l.inner ≡ drop (length fs) new → IsLayout m l
layout_is (Volume h files) fs new l e lays own inner =
    let count : length (files_list files) ≡ length fs = ap length (ap files_of e ∙ files_list_back fs) in
    let enough = (begins_own (record { depth = 0; volume = Volume h files }) (volumes_in_files files) (length fs) new count
    (new, [], sym (append-nil new), lays)).0 in (
      subst (λ (xs : List ℕ). AreAllStarts (Volume h files) xs) (sym ((λ i. own i ++ inner i) ∙ take-append-drop (length fs) new)) lays,
      ap length own ∙ length-take-le (length fs) new enough ∙ sym count,
    )

-- the own starts of a layout are the first placement
pub own_first : (m : Meaning) (l : LayoutParts) → IsLayout m l → AreStarts m l.own
own_first (Volume h files) l (laid, count) =
    let n : ℕ = length (files_list files) in
    let starts : List ℕ = l.own ++ l.inner in
    subst (λ (xs : List ℕ). AreStarts (Volume h files) xs) (take_at l.own l.inner n count)
    (begins_own (record { depth = 0; volume = Volume h files }) (volumes_in_files files) n starts refl
    (starts, [], sym (append-nil starts), laid)).1
