-- The sources of an image at every level (PI specification, volume 3, sections 3.2.4, 3.2.5.2 and 3.2.5.7).
use Rattle.std.specs.Prelude.{◌≡◌, ◌<◌, ℕ, zero, suc, ◌+◌, List, [], ◌∷◌, ◌++◌, length, IfSome}
use Rattle.fv_budget.specs.Words.{nesting_limit}
use Rattle.fv_budget.specs.declared.budget.Budget.{Budget}
use Rattle.fv_levels.specs.Attempts.{Attempt, after_all, closed_of, first_progress, levels_with, sources_of, tried}
use Rattle.fv_levels.specs.declared.attempt.Progress.{Progress}
use Rattle.fv_levels.specs.Sources.{LevelsForm, SourceForm, image_source, packed_of}

-- the attempts of a level: the attempts to open the packed sections of these sources, of which the first has the number
-- n
abbrev pub level_of : ℕ → Progress → List SourceForm → List Attempt
level_of n s sources = tried s (packed_of n sources)

-- the attempts of this many levels, of which the first is the level of these sources. The sources of the next level are
-- the contents of the sections that are opened, with the next numbers
unfoldable pub levels_from : ℕ → ℕ → Progress → List SourceForm → List Attempt
levels_from zero n s sources = []
levels_from (suc more) n s sources =
    level_of n s sources
    ++ levels_from more (n + length sources) (after_all s (level_of n s sources)) (sources_of (level_of n s sources))

-- all attempts: the attempts of the level of the image, and of 8 levels of contents. On the last level no section is
-- opened, because there are 8 opened sections around it
abbrev pub attempts_of : List ℕ → Budget → List Attempt
attempts_of image s = levels_from (nesting_limit + 1) 0 (first_progress s) (image_source image ∷ [])

-- the sources of the image and the packed sections that are not opened
abbrev pub levels_of : List ℕ → Budget → LevelsForm
levels_of image s = levels_with (record { sources = image_source image ∷ []; closed = [] }) (attempts_of image s)

-- each of these sources, of which the first has the number n, is the contents of a section of an earlier source
abbrev pub ComeAfter : ℕ → List SourceForm → Type 0
ComeAfter n [] = Unit {0}
ComeAfter n (x ∷ xs) = IfSome x.origin (λ o. o.place.source < n) × ComeAfter (n + 1) xs

-- these are the levels of the image, within the budget s: the packed sections of all sources are tried, source after
-- source, each within the budget that the attempts before it leave. Sections in contents that are stored are passed
-- over, because they are sections of these contents. The sources are the image and the contents of the sections that
-- are opened, each of which is in an earlier source. The closed sections are the others that are tried, with the
-- reasons
pub record AreLevels (image : List ℕ) (s : Budget) (levels : LevelsForm) (attempts : List Attempt) : Type 0 where
  pub attempted : attempts ≡ tried (first_progress s) (packed_of 0 levels.sources)
  pub sources : levels.sources ≡ image_source image ∷ sources_of attempts
  pub earlier : ComeAfter 1 (sources_of attempts)
  pub closed : levels.closed ≡ closed_of attempts
