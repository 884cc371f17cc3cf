-- A walk over the parts of a volume returns the rows of its meaning, and has room for its levels. The steps:
-- 1. The rows of a volume, of its files and of some sections are the rows of a list of parts (`volume_rows`,
--    `files_rows`, `sections_rows`). So the rows in a part are the rows of the parts that it contains (`inside_rows`).
-- 2. The parts in a part nest only as deep as their level allows (`nest_in`, `inside_nests`).
-- 3. The innermost level is split from the others (`left_more`, `levels_more`, `levels_less`).
-- 4. An empty level is dropped (`none_left`), and the walk takes the next row (`next_fits`, `next_left`, `rest_are`).
--    The contents of its part are one more level (`inside_left`, `inside_are`).
use Rattle.std.proofs.Common.{◌≡◌, ◌≤◌, ◌<◌, ◌+◌, ◌^◌, ℕ, [], ◌∷◌, ◌++◌, List, length, refl, ap, subst, append-nil, append_assoc}
use Rattle.fv_base.proofs.Laws.{arith, length-append, map, AllByRecursion}
use Rattle.fv_tree.specs.Words.{Meaning, Volume, FileMeanings, NoFiles, MoreFiles, File}
use Rattle.fv_tree.specs.Words.{Sectioned, SectionMeanings, NoSections, MoreSections, SectionMeaning, Section, Group, Nested, files_list}
use Rattle.fv_base.specs.Words.{depth_limit}
use Rattle.fv_section.specs.Words.{FrameForm}
use Rattle.fv_tree.specs.Words.{AcceptedStream, MeansSection, Pairwise, sections_from, sections_list}
use Rattle.fv_tree.proofs.Laws.{nests_files, nests_content, nests_sections, nests_body, nests_group, nests_nested}
use Rattle.fv_rows.specs.Words.{NodeMeaning, VolumeNode, FileNode, SectionNode, rows_of_files, rows_of_sections}
use Rattle.fv_rows.specs.Words.{rows_of_volume, parts_in, nodes_of, nesting_inside, rows_inside, rows_of_nodes, rows_left_in, PartNestsAt}
use Rattle.fv_rows.specs.Words.{FitsAt, AreRowLevels}
use Rattle.fv_rows.specs.declared.tree_walk.Level.{Level}
use Rattle.fv_rows.specs.declared.tree_walk.Parts.{Parts}

-- ---- the rows of a list of parts

-- a list of sections is the same after `sections_from` and `sections_list`
pub sections_list_back : (ss : List SectionMeaning) → sections_list (sections_from ss) ≡ ss
sections_list_back [] = refl
sections_list_back (s ∷ ss) = ap (λ l. s ∷ l) (sections_list_back ss)

files_rows : (depth nesting number : ℕ) (fs : FileMeanings)
    → rows_of_files depth nesting number fs ≡ rows_of_nodes depth nesting number (map FileNode (files_list fs))
files_rows depth nesting number NoFiles = refl
files_rows depth nesting number (MoreFiles (File name kind attributes content) fs) = simp (files_rows depth nesting (number + 1) fs)

sections_rows : (depth nesting number : ℕ) (ss : SectionMeanings)
    → rows_of_sections depth nesting number ss ≡ rows_of_nodes depth nesting number (map SectionNode (sections_list ss))
sections_rows depth nesting number NoSections = refl
sections_rows depth nesting number (MoreSections (Section kind extended body) ss) = simp (sections_rows depth nesting (number + 1) ss)

-- the rows of a stream are the rows of its sections
pub stream_rows : (ss : List SectionMeaning) → rows_of_sections 0 0 0 (sections_from ss) ≡ rows_of_nodes 0 0 0 (map SectionNode ss)
stream_rows ss = rw sections_list_back at (sections_rows 0 0 0 (sections_from ss))

pub volume_rows : (depth nesting : ℕ) (v : Meaning) → rows_of_volume depth nesting v ≡ rows_of_nodes depth nesting 0 (VolumeNode v ∷ [])
volume_rows depth nesting (Volume h files) = simp append-nil

-- the rows in a part are the rows of the parts that it contains
pub inside_rows : (depth nesting : ℕ) (node : NodeMeaning) → rows_inside depth nesting node ≡ rows_of_nodes depth nesting 0 (parts_in node)
inside_rows depth nesting (VolumeNode (Volume h files)) = files_rows depth nesting 0 files
inside_rows depth nesting (FileNode (File name kind attributes (Sectioned ss tail))) = sections_rows depth nesting 0 ss
inside_rows depth nesting (SectionNode (Section kind extended (Group ss tail))) = sections_rows depth nesting 0 ss
inside_rows depth nesting (SectionNode (Section kind extended (Nested v))) = volume_rows depth nesting v
inside_rows depth nesting node = refl

-- ---- how deep parts nest

all_nest : {X : Type 0} (P : X → Type 0) (depth : ℕ) (form : X → NodeMeaning) (xs : List X) → ((x : X) → P x → PartNestsAt depth (form x))
    → AllByRecursion P xs → AllByRecursion (PartNestsAt depth) (map form xs)
all_nest P depth form [] nests all = tt
all_nest P depth form (x ∷ xs) nests (here, more) = (nests x here, all_nest P depth form xs nests more)

-- the parts in a part nest only as deep as depth d allows, for each d up to the depth right below the part
pub nest_in : (depth d : ℕ) (node : NodeMeaning) → d ≤ depth + 1 → PartNestsAt depth node → AllByRecursion (PartNestsAt d) (parts_in node)
nest_in depth d (VolumeNode (Volume h files)) low (n, fits, b, is) =
    all_nest _ d FileNode (files_list files) (λ f is. (n, omega (arith, fits, low), is.0, is.1)) (nests_files h files n (b, is))
nest_in depth d (FileNode (File name kind attributes (Sectioned ss tail))) low (n, fits, f, means) =
    all_nest _ d SectionNode (sections_list ss) (λ s is. (n, omega (arith, fits, low), is.0, is.1))
    (nests_sections ss tail n (nests_content (File name kind attributes (Sectioned ss tail)) n f means))
nest_in depth d (SectionNode (Section kind extended (Group ss tail))) low (n, fits, f, means) =
    let (k, less, inside) = nests_group ss tail n (nests_body (Section kind extended (Group ss tail)) n f means) in
    all_nest _ d SectionNode (sections_list ss) (λ s is. (k, omega (arith, fits, less, low), is.0, is.1)) inside
nest_in depth d (SectionNode (Section kind extended (Nested v))) low (n, fits, f, means) =
    let (k, less, inside) = nests_nested v n (nests_body (Section kind extended (Nested v)) n f means) in
    ((k, omega (arith, fits, less, low), inside.0, inside.1), tt)
nest_in depth d node low nests = tt

pub inside_nests : (depth : ℕ) (node : NodeMeaning) → PartNestsAt depth node → AllByRecursion (PartNestsAt (depth + 1)) (parts_in node)
inside_nests depth node nests = nest_in depth (depth + 1) node (omega arith) nests

-- the sections of a stream nest only so deep that a walk over them has room
pub stream_nests : (ss : List SectionMeaning) (tail : ℕ) (b : List ℕ) → AcceptedStream ss tail b
    → AllByRecursion (PartNestsAt 0) (map SectionNode ss)
stream_nests ss tail b is = go (is.stream).0 ss (is.stream).2 where
  go : (fs : List FrameForm) (ss : List SectionMeaning) → Pairwise (MeansSection depth_limit) fs ss
      → AllByRecursion (PartNestsAt 0) (map SectionNode ss)
  go [] [] pairs = tt
  go (f ∷ fs) (s ∷ ss) pairs = ((depth_limit, omega arith, f, pairs.0), go fs ss pairs.1)
  go _ _ pairs = absurd pairs

-- ---- the innermost level

-- the rows that are left are the rows of the innermost level, and then the rows of the other levels
left_more : (depth at : ℕ) (levels : List Level) (l : Level) → at ≡ depth + length levels
    → rows_left_in depth (levels ++ l ∷ []) ≡ rows_of_nodes at l.nesting l.number (nodes_of l.parts) ++ rows_left_in depth levels
left_more depth at [] l is = let same : at ≡ depth = omega (arith, is) in rw (append-nil, same)
left_more depth at (outer ∷ levels) l is = simp (left_more (depth + 1) at levels l (omega (arith, is)), append_assoc)

-- some levels and a level that fits right below them are levels
levels_more : (depth at : ℕ) (levels : List Level) (l : Level) → at ≡ depth + length levels → AreRowLevels depth levels → FitsAt at l
    → AreRowLevels depth (levels ++ l ∷ [])
levels_more depth at [] l is are fits = (subst (λ d. FitsAt d l) (omega (arith, is)) fits, tt)
levels_more depth at (outer ∷ levels) l is (here, more) fits = (here, levels_more (depth + 1) at levels l (omega (arith, is)) more fits)

-- the innermost level fits at its depth, and the other levels fit without it
pub levels_less : (depth at : ℕ) (levels : List Level) (l : Level) → at ≡ depth + length levels → AreRowLevels depth (levels ++ l ∷ [])
    → AreRowLevels depth levels × FitsAt at l
levels_less depth at [] l is (here, none) = (tt, subst (λ d. FitsAt d l) (omega (arith, is)) here)
levels_less depth at (outer ∷ levels) l is (here, more) =
    let rest = levels_less (depth + 1) at levels l (omega (arith, is)) more in ((here, rest.0), rest.1)

-- ---- the next row

-- `left_more` for all levels of a walk: the first of them is at depth 0
left_at : (levels : List Level) (l : Level)
    → rows_left_in 0 (levels ++ l ∷ []) ≡ rows_of_nodes (length levels) l.nesting l.number (nodes_of l.parts) ++ rows_left_in 0 levels
left_at levels l = left_more 0 (length levels) levels l (omega arith)

-- an innermost level without parts has no rows
pub none_left : (levels : List Level) (l : Level) → nodes_of l.parts ≡ [] → rows_left_in 0 (levels ++ l ∷ []) ≡ rows_left_in 0 levels
none_left levels l is = rw (left_at levels l, is)

-- every part leaves room for one more level
pub deep : (depth : ℕ) (node : NodeMeaning) → PartNestsAt depth node → depth ≤ 26
deep depth (VolumeNode v) nests = omega (arith, nests.1)
deep depth node nests = omega (arith, nests.1)

-- the number of sections around the contents of a part is at most their depth
nesting_small : (depth nesting : ℕ) (node : NodeMeaning) → nesting ≤ depth → nesting_inside nesting node ≤ depth + 1
nesting_small depth nesting (VolumeNode v) small = omega (arith, small)
nesting_small depth nesting node small = omega (arith, small)

-- the level without its first part
abbrev pub level_with_rest : Level → Parts → Level
level_with_rest l rest = record { number = l.number + 1; nesting = l.nesting; parts = rest }

-- `node` is the first part of the innermost level `l`, and `rest` are the parts after it
module _ (levels : List Level) (l : Level) (node : NodeMeaning) (rest : Parts) (is : nodes_of l.parts ≡ node ∷ nodes_of rest)
    (are : AreRowLevels 0 (levels ++ l ∷ [])) where
  -- the outer levels fit, and the innermost level fits below them
  apart : AreRowLevels 0 levels × (AllByRecursion (PartNestsAt (length levels)) (node ∷ nodes_of rest)
      × (l.number + length (node ∷ nodes_of rest) < 2 ^ 63) × (l.nesting ≤ length levels))
  apart = rw is at (levels_less 0 (length levels) levels l (omega arith) are)

  -- there is room for one more level, one more number and one more section
  pub next_fits : (length levels ≤ 26) × (l.number + 1 < 2 ^ 63) × (l.nesting ≤ 26)
  next_fits =
      let room = deep (length levels) node apart.1.0.0 in (room, omega (arith, apart.1.1), omega (arith, room, apart.1.2))

  -- the levels also fit without this part
  pub rest_are : AreRowLevels 0 (levels ++ level_with_rest l rest ∷ [])
  rest_are = levels_more 0 (length levels) levels (level_with_rest l rest) (omega arith) apart.0 (apart.1.0.1, omega (arith, apart.1.1), apart.1.2)

  -- the first part of the innermost level is the next row
  pub next_left : rows_left_in 0 (levels ++ l ∷ [])
      ≡ record { depth = length levels; nesting = l.nesting; number = l.number; node = node }
      ∷ (rows_of_nodes (length levels + 1) (nesting_inside l.nesting node) 0 (parts_in node) ++ rows_left_in 0 (levels ++ level_with_rest l rest ∷ []))
  next_left = rw (left_at levels l, left_at levels (level_with_rest l rest), is, ← inside_rows _ _ node, append_assoc)

  module _ (nesting : ℕ) (parts : Parts) (below : nesting ≡ nesting_inside l.nesting node) (within : nodes_of parts ≡ parts_in node) where
    -- the contents of the first part are one more level, and the rows that are left begin with its row
    pub inside_left : rows_left_in 0 (levels ++ l ∷ [])
        ≡ record { depth = length levels; nesting = l.nesting; number = l.number; node = node }
        ∷ rows_left_in 0 ((levels ++ level_with_rest l rest ∷ []) ++ record { number = 0; nesting = nesting; parts = parts } ∷ [])
    inside_left = rw (left_at (levels ++ level_with_rest l rest ∷ []) _, length-append levels _, below, within) next_left

    -- the levels fit with this level
    pub inside_are : length (nodes_of parts) < 2 ^ 63
        → AreRowLevels 0 ((levels ++ level_with_rest l rest ∷ []) ++ record { number = 0; nesting = nesting; parts = parts } ∷ [])
    inside_are few =
        let small = nesting_small (length levels) l.nesting node apart.1.2 in
        levels_more 0 (length levels + 1) (levels ++ level_with_rest l rest ∷ []) _ (omega (arith, length-append levels (level_with_rest l rest ∷ [])))
        rest_are (rw within (inside_nests (length levels) node apart.1.0.0), omega (arith, few), omega (arith, below, small))
