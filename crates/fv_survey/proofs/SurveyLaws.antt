-- The laws of the survey of an image, and of the survey of a stream of sections. Its leaf rows tile the bytes (`tiling`)
-- and each row (`inside`), its rows are the rows of a forest (`nesting`), no place where a volume may begin is passed
-- over (`passing`), their findings are honest (`honest`), and there are at most two rows for each byte (`few`).
use Rattle.std.proofs.Common.{◌≡◌, ◌≤◌, ◌<◌, ◌*◌, ◌^◌, ◌==◌, ℕ, List, [], ◌∷◌, Bool, true, false, length, refl}
use Rattle.std.proofs.Common.{sym, ap, ◌∙◌, ◌++◌, append-nil, subst, arith, if◌then◌else◌, Option, None, IfNone}
use Rattle.fv_survey.specs.declared.portion.Reading.{Reading}
use Rattle.fv_survey.specs.declared.portion.Reading.TheVariants as readings
use Rattle.fv_survey.specs.declared.row.Row.{Row}
use Rattle.fv_survey.specs.declared.row.RowKind.TheVariants as kinds
use Rattle.std.specs.List.{AllByRecursion}
use Rattle.fv_base.proofs.Laws.{nat_tests}
use Rattle.fv_survey.specs.Words.{Fits, FitsAs, Follow, Forest, IsForest, IsHonest, PassesNothing, PortionForm, Tile, TileEach, ahead}
use Rattle.fv_survey.specs.Words.{leaves_of, most_as, most_rows, none, rows_left, survey_of, survey_of_sections, whole_portion}
use Rattle.fv_survey.specs.Words.{Reads, whole_image, whole_sections, whole_stream}
use Rattle.fv_survey.specs.inner.Chains.{Chain}
use Rattle.fv_survey.proofs.ForestLaws.{leaves_follow}
use Rattle.fv_survey.proofs.HonestLaws.{image_honest, sections_honest}
use Rattle.fv_survey.proofs.InsideLaws.{tile_all}
use Rattle.fv_survey.proofs.NestLaws.{reads_nest}
use Rattle.fv_survey.proofs.PassLaws.{all_passed}
use Rattle.fv_survey.proofs.PlaceLaws.{whole_placed}
use Rattle.fv_survey.proofs.ReadingLaws.{has_forest, rows_few}

-- ---- bytes that are read in one way

-- the bytes fit this reading, as an image or as a stream of sections
abbrev pub FitsWhole : Reading → List ℕ → Type 0
FitsWhole reading b = FitsAs reading (whole_portion reading b).nest (length b)

-- bytes as a list of portions fit, begin at the first byte and end with the last
record IsWhole (b : List ℕ) (ps : List PortionForm) : Type 0 where
  fit : AllByRecursion Fits ps
  chain : Chain 0 0 (length b) ps

is_whole : (reading : Reading) (b : List ℕ) → length b < 2 ^ 63 → FitsWhole reading b → IsWhole b (ahead (whole_portion reading b) [])
is_whole reading b room fits = go (length b == 0) refl where
  go : (v : Bool) → (length b == 0) ≡ v → IsWhole b (if v then [] else whole_portion reading b ∷ [])
  go true e =
      let bare : length b ≡ 0 = grind (arith, nat_tests) in
      record { fit = tt; chain = sym bare }
  go false e =
      let some : 0 < length b = grind (arith, nat_tests) in
      record { fit = ((some, omega (arith, room), fits), tt); chain = (refl, refl, omega arith) }

-- the rows are the rows of a forest, which is the reading of the bytes
read_forest : (reading : Reading) (b : List ℕ) → length b < 2 ^ 63 → FitsWhole reading b
    → (f : Forest) × IsForest (length b) (rows_left (ahead (whole_portion reading b) [])) f
    × Reads f (ahead (whole_portion reading b) [])
read_forest reading b room fits =
    let ps : List PortionForm = ahead (whole_portion reading b) [] in
    let whole = is_whole reading b room fits in
    let grown = has_forest ps whole.fit in (
      grown.forest,
      (grown.rows, reads_nest grown.forest ps 0 0 (length b) grown.reads whole.fit whole.chain),
      grown.reads,
    )

-- if the rows are the rows of a forest, then every byte is in exactly one leaf row, and the leaf rows in each row tile
-- the row
tile_whole : (n : ℕ) (rows : List Row) → (f : Forest) × IsForest n rows f → Tile n rows
tile_whole n rows r =
    subst (λ rows. Follow 0 n (leaves_of rows)) (sym r.1.0) (leaves_follow 0 0 n r.0 r.1.1)

tile_each : (n : ℕ) (rows : List Row) → (f : Forest) × IsForest n rows f → TileEach rows
tile_each n rows r = subst TileEach (sym r.1.0) (tile_all n r.0 r.1.1)

few_rows : (reading : Reading) (b : List ℕ) → most_as reading (length b) ≤ 2 * length b
    → length (rows_left (ahead (whole_portion reading b) [])) ≤ 2 * length b
few_rows reading b most = omega (arith, rows_few (ahead (whole_portion reading b) []), go (length b == 0)) where
  go : (v : Bool) → most_rows (if v then [] else whole_portion reading b ∷ []) ≤ 2 * length b
  go true = omega arith
  go false = omega (arith, most)

-- ---- an image

abbrev as_image : Reading
as_image = readings.Run kinds.Gap

image_fits : (b : List ℕ) → FitsWhole as_image b
image_fits b = (refl, omega arith)

pub whole_fits : (b : List ℕ) → length b < 2 ^ 63 → AllByRecursion Fits (whole_image b)
whole_fits b room = (is_whole as_image b room (image_fits b)).fit

image_forest : (b : List ℕ) → length b < 2 ^ 63 → (f : Forest) × IsForest (length b) (survey_of b) f × Reads f (whole_image b)
unfolding survey_of
image_forest b room = read_forest as_image b room (image_fits b)

pub nesting : (b : List ℕ) → length b < 2 ^ 63 → (f : Forest) × IsForest (length b) (survey_of b) f
nesting b room = let r = image_forest b room in (r.0, r.1)

pub tiling : (b : List ℕ) → length b < 2 ^ 63 → Tile (length b) (survey_of b)
tiling b room = tile_whole (length b) (survey_of b) (nesting b room)

pub inside : (b : List ℕ) → length b < 2 ^ 63 → TileEach (survey_of b)
inside b room = tile_each (length b) (survey_of b) (nesting b room)

pub few : (b : List ℕ) → length (survey_of b) ≤ 2 * length b
unfolding survey_of
few b = few_rows as_image b (omega arith)

pub passing : (b : List ℕ) → length b < 2 ^ 63 → (f : Forest) × IsForest (length b) (survey_of b) f × PassesNothing b 0 f
passing b room =
    let r = image_forest b room in (r.0, r.1, all_passed b r.0 (whole_image b) (whole_placed as_image b refl) r.2)

pub honest : (b : List ℕ) → length b < 2 ^ 63 → (f : Forest) × IsForest (length b) (survey_of b) f × IsHonest b [] [] f
honest b room = let r = image_forest b room in (r.0, r.1, image_honest b (whole_fits b room) r.0 r.2)

-- ---- a stream of sections

abbrev as_sections : Reading
as_sections = readings.Sections none

sections_fit : (b : List ℕ) → FitsWhole as_sections b
sections_fit b = omega arith

pub whole_sections_fit : (b : List ℕ) → length b < 2 ^ 63 → AllByRecursion Fits (whole_sections b)
whole_sections_fit b room = (is_whole as_sections b room (sections_fit b)).fit

sections_forest : (b : List ℕ) → length b < 2 ^ 63
    → (f : Forest) × IsForest (length b) (survey_of_sections b) f × Reads f (whole_sections b)
unfolding survey_of_sections
sections_forest b room = read_forest as_sections b room (sections_fit b)

pub sections_nesting : (b : List ℕ) → length b < 2 ^ 63 → (f : Forest) × IsForest (length b) (survey_of_sections b) f
sections_nesting b room = let r = sections_forest b room in (r.0, r.1)

pub sections_tiling : (b : List ℕ) → length b < 2 ^ 63 → Tile (length b) (survey_of_sections b)
sections_tiling b room = tile_whole (length b) (survey_of_sections b) (sections_nesting b room)

pub sections_inside : (b : List ℕ) → length b < 2 ^ 63 → TileEach (survey_of_sections b)
sections_inside b room = tile_each (length b) (survey_of_sections b) (sections_nesting b room)

pub sections_few : (b : List ℕ) → length (survey_of_sections b) ≤ 2 * length b
unfolding survey_of_sections
sections_few b = few_rows as_sections b (omega arith)

pub sections_passing : (b : List ℕ) → length b < 2 ^ 63
    → (f : Forest) × IsForest (length b) (survey_of_sections b) f × PassesNothing b 0 f
sections_passing b room =
    let r = sections_forest b room in (r.0, r.1, all_passed b r.0 (whole_sections b) (whole_placed as_sections b tt) r.2)

pub sections_are_honest : (b : List ℕ) → length b < 2 ^ 63
    → (f : Forest) × IsForest (length b) (survey_of_sections b) f × IsHonest b (whole_stream b ∷ []) [] f
sections_are_honest b room =
    let r = sections_forest b room in (r.0, r.1, sections_honest b (whole_sections_fit b room) r.0 r.2)

-- ---- walks

-- the rows of a walk that has ended are the rows of the survey
pub all_lent : (rows walk new : List Row) (b : List ℕ) (next : Option Row) → rows ++ walk ≡ survey_of b → next ≡ None
    → IfNone next ((walk ≡ []) × (new ≡ [])) → rows ≡ survey_of b
all_lent rows walk new b next before ended none =
    let empty : walk ≡ [] = (subst (λ o. IfNone o ((walk ≡ []) × (new ≡ []))) ended none).0 in
    sym (append-nil rows) ∙ (ap (λ w. rows ++ w) (sym empty) ∙ before)
