-- A walk over the sections of a file returns them in preorder, and has room for its levels. The steps:
-- 1. The sections in a file, and in a group, nest only as deep as their level allows (`file_nests`, `group_nests`).
-- 2. The innermost level is split from the others (`left_more`, `levels_more`, `levels_less`).
-- 3. An empty level is dropped (`none_left`, `outer_are`), and the walk takes the next section, which is a group
--    (`next_group`, `group_are`, and `group_fits` for the room) or not (`next_other`, `other_are`).
use Rattle.fv_tree.specs.declared.view.Body.TheVariants as bodies
use Rattle.std.proofs.Common.{◌≡◌, ◌≤◌, ◌+◌, ℕ, [], ◌∷◌, ◌++◌, List, length, refl, sym, subst, append-nil, append_assoc, arith, ◌<◌}
use Rattle.fv_base.proofs.Laws.{length-append, AllByRecursion, depth_limit, common_steps}
use Rattle.fv_section.specs.Words.{FrameForm}
use Rattle.fv_tree.specs.Words.{MeansSection, preorder, inside_section, FileMeaning, File, Plain, Sectioned, SectionMeaning, Section}
use Rattle.fv_tree.specs.Words.{Group, content_of, sections_list, body_of, sections_from, sections_in_data, IsReadFile, AreLevels, NestsAt, left_in}
use Rattle.fv_tree.specs.Words.{inside_body, body_view}
use Rattle.fv_tree.specs.declared.view.Body.{Body}
use Rattle.fv_tree.proofs.DepthLaws.{nests_body, nests_content, nests_group, nests_sections}
use Rattle.fv_tree.proofs.SectionShapeLaws.{list_back}

-- ---- how deep sections nest

each_nests : (depth n : ℕ) (ss : List SectionMeaning) → depth + n ≤ depth_limit
    → AllByRecursion (λ s. (f : FrameForm) × MeansSection n f s) ss → AllByRecursion (NestsAt depth) ss
each_nests depth n [] fits h = tt
each_nests depth n (s ∷ ss) fits ((f, means), more) = ((n, fits, f, means), each_nests depth n ss fits more)

pub file_nests : (m : FileMeaning) (ss : List SectionMeaning) → IsReadFile m → sections_from ss ≡ sections_in_data (content_of m)
    → AllByRecursion (NestsAt 0) ss
file_nests (File name kind attributes (Plain b)) ss read is = rw (← list_back ss, is) tt
file_nests (File name kind attributes (Sectioned us tail)) ss (n, few, f, stored, means) is =
    let content = nests_content (File name kind attributes (Sectioned us tail)) n f means in
    rw (← list_back ss, is) (each_nests 0 n (sections_list us) (omega (arith, few)) (nests_sections us tail n content))

-- a group inside `depth` groups leaves room for its sections, which nest as deep as one level further inwards allows
group_nests : (depth : ℕ) (s : SectionMeaning) (ss : List SectionMeaning) (tail : ℕ) → NestsAt depth s → Group (sections_from ss) tail ≡ body_of s
    → (depth < depth_limit) × AllByRecursion (NestsAt (depth + 1)) ss
group_nests depth (Section kind extended body) ss tail (n, fits, f, means) is =
    let (k, less, inside) = nests_group _ tail n (nests_body (Section kind extended (Group (sections_from ss) tail)) n f (rw is means)) in
    (omega (arith, fits, less), rw list_back at (each_nests (depth + 1) k _ (omega (arith, fits, less)) inside))

-- ---- the innermost level

left_more : (levels : List (List SectionMeaning × ℕ)) (ss : List SectionMeaning × ℕ)
    → left_in (levels ++ ss ∷ []) ≡ preorder (sections_from ss.0) ++ left_in levels
left_more [] ss = sym (append-nil (preorder (sections_from ss.0)))
left_more (outer ∷ levels) ss = rw (left_more levels ss) (append_assoc (preorder (sections_from ss.0)) (left_in levels) _)

levels_more : (depth at : ℕ) (levels : List (List SectionMeaning × ℕ)) (ss : List SectionMeaning × ℕ) → at ≡ depth + length levels
    → AreLevels depth levels → AllByRecursion (NestsAt at) ss.0 → AreLevels depth (levels ++ ss ∷ [])
levels_more depth at [] ss is are nest = (subst (λ d. AllByRecursion (NestsAt d) ss.0) (omega (arith, is)) nest, tt)
levels_more depth at (outer ∷ levels) ss is (here, more) nest = (here, levels_more (depth + 1) at levels ss (omega (arith, is)) more nest)

levels_less : (depth at : ℕ) (levels : List (List SectionMeaning × ℕ)) (ss : List SectionMeaning × ℕ) → at ≡ depth + length levels
    → AreLevels depth (levels ++ ss ∷ []) → AreLevels depth levels × AllByRecursion (NestsAt at) ss.0
levels_less depth at [] ss is (here, none) = (tt, subst (λ d. AllByRecursion (NestsAt d) ss.0) (omega (arith, is)) here)
levels_less depth at (outer ∷ levels) ss is (here, more) =
    let rest = levels_less (depth + 1) at levels ss (omega (arith, is)) more in ((here, rest.0), rest.1)

-- ---- the next section

inside_is : (s : SectionMeaning) → inside_section s ≡ inside_body (body_of s)
inside_is (Section kind extended body) = refl

-- an innermost level without sections adds nothing to the sections that are left
pub none_left : (levels : List (List SectionMeaning × ℕ)) (ss : List SectionMeaning × ℕ) → ss.0 ≡ []
    → left_in (levels ++ ss ∷ []) ≡ left_in levels
none_left levels ss is = rw (left_more levels ss, is)

pub outer_are : (levels : List (List SectionMeaning × ℕ)) (ss : List SectionMeaning × ℕ) → AreLevels 0 (levels ++ ss ∷ []) → AreLevels 0 levels
outer_are levels ss are = (levels_less 0 (length levels) levels ss (omega arith) are).0

module _ (levels : List (List SectionMeaning × ℕ)) (ss rest : List SectionMeaning × ℕ) (s : SectionMeaning) (is : ss.0 ≡ s ∷ rest.0)
    (are : AreLevels 0 (levels ++ ss ∷ [])) where
  nests : AllByRecursion (NestsAt (length levels)) (s ∷ rest.0)
  nests = rw is at (levels_less 0 (length levels) levels ss (omega arith) are).1

  -- the first section of the innermost level is the next section of the walk, and is followed by the sections in it
  first_left : left_in (levels ++ ss ∷ []) ≡ s ∷ (inside_section s ++ left_in (levels ++ rest ∷ []))
  first_left = grind (arith, common_steps, left_more) steps 150000

  pub other_are : AreLevels 0 (levels ++ rest ∷ [])
  other_are = levels_more 0 (length levels) levels rest (omega arith) (outer_are levels ss are) nests.1

  -- b is the body of the section
  module _ (b : Body) (view : body_view b ≡ body_of s) where
    pub next_other : ((g : _) → b ≡ bodies.Group g → ⊥) → left_in (levels ++ ss ∷ []) ≡ s ∷ left_in (levels ++ rest ∷ [])
    next_other not = grind (arith, common_steps, first_left, inside_is) steps 150000

    -- if the section is a group, its sections are the new innermost level
    module _ (inside : List SectionMeaning × ℕ) (group : b ≡ bodies.Group inside) where
      within : Group (sections_from inside.0) inside.1 ≡ body_of s
      within = rw group at view

      pub group_fits : length levels < depth_limit
      group_fits = (group_nests (length levels) s inside.0 inside.1 nests.0 within).0

      pub next_group : left_in (levels ++ ss ∷ []) ≡ s ∷ left_in ((levels ++ rest ∷ []) ++ inside ∷ [])
      next_group = grind (arith, common_steps, first_left, inside_is, within, left_more) steps 150000

      pub group_are : AreLevels 0 ((levels ++ rest ∷ []) ++ inside ∷ [])
      group_are =
          levels_more 0 (length levels + 1) (levels ++ rest ∷ []) inside (omega (arith, length-append levels (rest ∷ []))) other_are
          (group_nests (length levels) s inside.0 inside.1 nests.0 within).1
