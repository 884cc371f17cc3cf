-- Facts about the volumes of a list, if two lists are joined or are at other depths. The steps:
-- 1. The starts of the files of two lists of volumes can be split (`laid_split`), and do not depend on the depths of
--    the volumes (`laid_level`). The same is true of the number of these starts (`count_joined`, `count_deeper`).
-- 2. Lists that begin with these starts can be split too (`begins_split`, `inside_begins`), and do not depend on the
--    depths (`begins_level`).
-- 3. A fact about each volume of two lists is a fact about each volume of the joined list (`each_joined`), and does not
--    depend on the depth (`each_deeper`). Volumes fit if and only if their files have starts (`laid_fit`, `fit_laid`).
-- 4. A walk that takes starts goes from one list to the next (`passed_on`).
use Rattle.std.proofs.Common.{◌≡◌, ◌≤◌, ◌+◌, ℕ, [], ◌∷◌, ◌++◌, List, length, take, drop, refl, ap, ◌∙◌, arith, append_assoc}
use Rattle.fv_base.proofs.Laws.{common_steps, length-append, drop-drop, drop_at, take_at, AllByRecursion, length-map, append-nil}
use Rattle.fv_rows.specs.inner.RowVolumes.{deeper_by}
use Rattle.fv_tree.specs.Words.{Meaning, Volume, FileMeaning, files_of, head_of, files_from, Inside, deeper, volumes_in, volumes_in_files}
use Rattle.fv_canon.specs.inner.ImageOf.{starts_in}
use Rattle.fv_canon.proofs.ImageParts.{ComesTo}
use Rattle.fv_canon.specs.Words.{BeginsWithStarts, StartsOfEach, AreStarts, placement_item, placement_items, AllFit}
use Rattle.fv_tree.proofs.Laws.{files_list_back}
use Rattle.fv_placement.proofs.Laws.{follow_length}

-- ---- the starts of the files of two lists of volumes

laid_split : (own : Meaning → List ℕ → Type 0) (vs ws : List Inside) (starts : List ℕ) → StartsOfEach own (vs ++ ws) starts
    → (here : List ℕ) × (behind : List ℕ) × (starts ≡ here ++ behind) × StartsOfEach own vs here × StartsOfEach own ws behind
laid_split own [] ws starts laid = ([], starts, refl, refl, laid)
laid_split own (v ∷ vs) ws starts (first, inner, text, p, r) =
    grind (arith, common_steps, laid_split own vs ws inner r, append_assoc first (laid_split own vs ws inner r).0 (laid_split own vs ws inner r).1) steps 400000

-- the depths of the volumes of the first list do not matter
laid_level : (own : Meaning → List ℕ → Type 0) (n : ℕ) (vs ws : List Inside) (starts : List ℕ)
    → StartsOfEach own (deeper_by n vs ++ ws) starts ≡ StartsOfEach own (vs ++ ws) starts
laid_level own n [] ws starts = refl
laid_level own n (v ∷ vs) ws starts =
    λ i. (first : List ℕ) × (inner : List ℕ) × (starts ≡ first ++ inner) × own v.volume first × laid_level own n vs ws inner i

pub laid_deeper : (own : Meaning → List ℕ → Type 0) (vs : List Inside) (starts : List ℕ) → StartsOfEach own vs starts → StartsOfEach own (deeper vs) starts
laid_deeper own vs starts laid = rw (← append-nil (deeper vs), laid_level own 1 vs [] starts, append-nil) laid

-- a list of the starts of a volume's own files has one start for each of these files
pub own_count : (m : Meaning) (own : List ℕ) → AreStarts m own → length own ≡ length (files_of m)
own_count m own placed = follow_length _ _ (placement_items m) own placed.placement.follow ∙ length-map (files_of m) placement_item

laid_count : (vs : List Inside) (starts : List ℕ) → StartsOfEach AreStarts vs starts → length starts ≡ starts_in vs
laid_count [] starts laid = ap length laid
laid_count (v ∷ vs) starts (own, inner, text, placed, laid) = grind (arith, common_steps, own_count, laid_count vs inner laid, length-append)

count_joined : (vs ws : List Inside) → starts_in (vs ++ ws) ≡ starts_in vs + starts_in ws
count_joined [] ws = omega arith
count_joined (v ∷ vs) ws = omega (arith, count_joined vs ws)

pub count_deeper : (vs : List Inside) → starts_in (deeper vs) ≡ starts_in vs
count_deeper [] = refl
count_deeper (v ∷ vs) = ap (λ n. length (files_of v.volume) + n) (count_deeper vs)

-- ---- lists that begin with the starts of the files of volumes

-- starts that begin with the starts of the files of some volumes begin with the starts of the first volume's own files
pub begins_own : (v : Inside) (vs : List Inside) (n : ℕ) (starts : List ℕ) → length (files_of v.volume) ≡ n → BeginsWithStarts (v ∷ vs) starts
    → (n ≤ length starts) × AreStarts v.volume (take n starts) × BeginsWithStarts vs (drop n starts)
begins_own v vs n starts many (laid, more, whole, (own, inner, text, placed, lays)) =
    grind (arith, common_steps, own_count, append_assoc, length-append, take_at, drop_at)

-- the starts of a volume's own files are followed by the starts of the files of the volumes inside the volume
pub inside_begins : (m : Meaning) (fs : List FileMeaning) (more : List Inside) (starts : List ℕ) → m ≡ Volume (head_of m) (files_from fs)
    → BeginsWithStarts (volumes_in m ++ more) starts
    → (length fs ≤ length starts) × BeginsWithStarts (drop 1 (volumes_in m) ++ more) (drop (length fs) starts)
inside_begins (Volume h files) fs more starts is begins =
    let own = begins_own (record { depth = 0; volume = Volume h files }) (volumes_in_files files ++ more) (length fs) starts
    (ap length (ap files_of is ∙ files_list_back fs)) begins in
    (own.0, own.2)

-- starts that begin with the starts of the files of two lists of volumes begin with the starts of the files of the
-- first list, and go on with the starts of the files of the second list
pub begins_split : (vs ws : List Inside) (starts : List ℕ) → BeginsWithStarts (vs ++ ws) starts
    → BeginsWithStarts vs starts × BeginsWithStarts ws (drop (starts_in vs) starts)
begins_split vs ws starts (whole, rest, text, laid) = grind (arith, common_steps, laid_split, append_assoc, drop_at, laid_count)

-- the depths of the volumes of the first list do not matter
pub begins_level : (n : ℕ) (vs ws : List Inside) (starts : List ℕ)
    → BeginsWithStarts (deeper_by n vs ++ ws) starts ≡ BeginsWithStarts (vs ++ ws) starts
begins_level n vs ws starts = λ i. (laid : List ℕ) × (more : List ℕ) × (starts ≡ laid ++ more) × laid_level AreStarts n vs ws laid i

pub begins_higher : (vs : List Inside) (starts : List ℕ) → BeginsWithStarts (deeper vs) starts → BeginsWithStarts vs starts
begins_higher vs starts begins = rw (← append-nil vs, ← begins_level 1 vs [] starts, append-nil) begins

-- ---- facts about each volume

pub each_weaker : {A : Type 0} (P Q : A → Type 0) → ((x : A) → P x → Q x) → (xs : List A) → AllByRecursion P xs → AllByRecursion Q xs
each_weaker P Q more [] all = tt
each_weaker P Q more (x ∷ xs) all = (more x all.0, each_weaker P Q more xs all.1)

pub each_joined : (P : Inside → Type 0) (vs ws : List Inside) → AllByRecursion P vs → AllByRecursion P ws → AllByRecursion P (vs ++ ws)
each_joined P [] ws p q = q
each_joined P (v ∷ vs) ws p q = (p.0, each_joined P vs ws p.1 q)

pub each_deeper : (P : Meaning → Type 0) (vs : List Inside) → AllByRecursion (λ v. P v.volume) vs
    → AllByRecursion (λ v. P v.volume) (deeper vs)
each_deeper P [] p = tt
each_deeper P (v ∷ vs) p = (p.0, each_deeper P vs p.1)

-- volumes whose files have starts fit, and the files of volumes that fit have starts
pub laid_fit : (vs : List Inside) (starts : List ℕ) → StartsOfEach AreStarts vs starts → AllFit vs
laid_fit [] starts laid = tt
laid_fit (v ∷ vs) starts (own, inner, text, placed, laid) = ((own, placed), laid_fit vs inner laid)

pub fit_laid : (vs : List Inside) → AllFit vs → (starts : List ℕ) × StartsOfEach AreStarts vs starts
fit_laid [] fit = ([], refl)
fit_laid (v ∷ vs) (own, fit) = let l = fit_laid vs fit in (own.0 ++ l.0, (own.0, l.0, refl, own.1, l.1))

-- ---- a walk over two lists of volumes

-- a walk that is at the volumes of two lists takes the starts of the files of the first list, and is then at the
-- volumes of the second list
pub passed_on : (vs ws : List Inside) (starts last : List ℕ) → ComesTo (vs ++ ws) starts last
    → BeginsWithStarts vs starts × ComesTo ws (drop (starts_in vs) starts) last
passed_on vs ws starts last at =
    grind (arith, common_steps, begins_split vs ws starts at.laid, drop-drop (starts_in ws) (starts_in vs) starts, count_joined vs ws) steps 400000
