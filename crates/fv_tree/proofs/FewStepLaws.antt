-- The path to the first difference of two volumes has at most 18 steps. The proof:
-- 1. The first of two differences has at most as many steps as the longer one (`most_or`). A step into a file or a
--    section adds one (`one_under`), and a difference of headers has no steps (`none_head`).
-- 2. A level of nesting adds at most two steps, one into a file and one into a section, so n levels have at most 2 * n
--    + 2.
-- 3. A meaning nests at most 8 levels deep, so the path has at most 18 steps (`few_steps`).
use Rattle.std.proofs.Common.{◌≡◌, max, ◌≤◌, ◌+◌, ◌*◌, ℕ, length, arith, Bool, Some, None, IfSome}
use Rattle.fv_base.proofs.Laws.{common_steps, option_or}
use Rattle.fv_head.specs.Words.{HeadFields}
use Rattle.fv_tree.specs.Words.{IsMeaning, Meaning, Volume, FileMeanings, NoFiles, MoreFiles, FileMeaning, File, content_of, ContentMeaning, Plain}
use Rattle.fv_tree.specs.Words.{Sectioned, SectionMeanings, NoSections, MoreSections, SectionMeaning, Section, body_of, BodyMeaning, Leaf, Group}
use Rattle.fv_tree.specs.Words.{Nested, Differs, differ_unless, under, head_differs, difference, files_differ, file_differs, content_differs}
use Rattle.fv_tree.specs.Words.{sections_differ, section_differs, body_differs}
use Rattle.fv_tree.specs.declared.difference.Step.{Step}
use Rattle.fv_tree.specs.declared.difference.DifferenceKind.{DifferenceKind}
use Rattle.fv_tree.specs.inner.NestingDepths.{NestsVolume, NestsFiles, NestsContent, NestsSections, NestsBody}
use Rattle.fv_tree.proofs.DepthLaws.{nests_files, nests_content, nests_sections, nests_body, nests_group, nests_nested}

-- ---- 1. bounds on the steps

-- the number of steps to a difference, or 0 if there is none
abbrev steps_to : Differs → ℕ
steps_to None = 0
steps_to (Some d) = length d.0

none_unless : (same : Bool) (word : DifferenceKind) → steps_to (differ_unless same word) ≡ 0
none_unless same word = grind (arith, common_steps)

most_or : (d e : Differs) → steps_to (option_or d e) ≤ max (steps_to d) (steps_to e)
most_or d e = grind (arith, common_steps)

one_under : (s : Step) (d : Differs) → steps_to (under s d) ≤ steps_to d + 1
one_under s d = grind (arith, common_steps)

none_head : (h g : HeadFields) → steps_to (head_differs h g) ≡ 0
none_head h g = omega (arith, most_or, none_unless)

-- ---- 2. two steps for each level

mutual
  volume_few : (v w : Meaning) (n : ℕ) → NestsVolume v n → steps_to (difference v w) ≤ 2 * n + 2
  volume_few (Volume h fs) (Volume g gs) n deep = omega (arith, most_or, none_head h g, files_few 0 fs gs n (nests_files h fs n deep))

  files_few : (i : ℕ) (fs gs : FileMeanings) (n : ℕ) → NestsFiles fs n → steps_to (files_differ i fs gs) ≤ 2 * n + 2
  files_few i NoFiles NoFiles n deep = omega arith
  files_few i (MoreFiles f fs) (MoreFiles g gs) n ((form, here), behind) =
      omega (arith, most_or, one_under, file_few f g n (nests_content f n form here), files_few (i + 1) fs gs n behind)
  files_few i _ _ n deep = omega arith

  file_few : (f g : FileMeaning) (n : ℕ) → NestsContent (content_of f) n → steps_to (file_differs f g) ≤ 2 * n + 1
  file_few (File x k a c) (File y l b d) n deep = omega (arith, most_or, none_unless, content_few c d n deep)

  content_few : (c d : ContentMeaning) (n : ℕ) → NestsContent c n → steps_to (content_differs c d) ≤ 2 * n + 1
  content_few (Plain b) (Plain c) n deep = omega (arith, none_unless)
  content_few (Sectioned ss t) (Sectioned rs u) n deep = omega (arith, most_or, none_unless, sections_few 0 ss rs n (nests_sections ss t n deep))
  content_few _ _ n deep = omega arith

  sections_few : (i : ℕ) (ss rs : SectionMeanings) (n : ℕ) → NestsSections ss n → steps_to (sections_differ i ss rs) ≤ 2 * n + 1
  sections_few i NoSections NoSections n deep = omega arith
  sections_few i (MoreSections s ss) (MoreSections r rs) n ((frame, here), behind) =
      omega (arith, most_or, one_under, section_few s r n (nests_body s n frame here), sections_few (i + 1) ss rs n behind)
  sections_few i _ _ n deep = omega arith

  section_few : (s r : SectionMeaning) (n : ℕ) → NestsBody (body_of s) n → steps_to (section_differs s r) ≤ 2 * n
  section_few (Section k e b) (Section l f c) n deep = omega (arith, most_or, none_unless, body_few b c n deep)

  body_few : (b c : BodyMeaning) (n : ℕ) → NestsBody b n → steps_to (body_differs b c) ≤ 2 * n
  body_few (Leaf b) (Leaf c) n deep = omega (arith, none_unless)
  body_few (Group ss t) (Group rs u) n deep =
      let (k, is, inside) = nests_group ss t n deep in omega (arith, most_or, none_unless, is, sections_few 0 ss rs k inside)
  body_few (Nested v) (Nested w) n deep = let (k, is, inside) = nests_nested v n deep in omega (arith, is, volume_few v w k inside)
  body_few _ _ n deep = omega arith

-- ---- 3. few levels

some_few : (d : Differs) (n : ℕ) → steps_to d ≤ n → IfSome d (λ p. length p.0 ≤ n)
some_few d n few = grind (arith, common_steps)

pub few_steps : (v w : Meaning) → IsMeaning v → IfSome (difference v w) (λ d. length d.0 ≤ 18)
few_steps v w (n, deep, b, bytes, d) = some_few (difference v w) 18 (omega (arith, deep, volume_few v w n (b, d)))
