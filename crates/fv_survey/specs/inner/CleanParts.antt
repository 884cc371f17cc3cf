-- The pieces of the cells of a volume, and sections that are read without findings about their places.
use Rattle.std.specs.Prelude.{◌≡◌, ◌<◌, ◌==◌, ℕ, zero, suc, true, if◌then◌else◌, List, [], ◌∷◌, drop, length}
use Rattle.fv_survey.specs.declared.pieces.Layout.{Layout}
use Rattle.fv_survey.specs.declared.pieces.Piece.{Piece}
use Rattle.fv_survey.specs.FindingSets.{none}
use Rattle.fv_survey.specs.PieceRules.{piece_by}
use Rattle.fv_survey.specs.Reading.{next_at}
use Rattle.fv_survey.specs.SectionRules.{begins_section, place_findings}

-- the first n pieces of r, which are the cells of a volume that are left
abbrev pub pieces_up_to : Layout → ℕ → List ℕ → List Piece
pieces_up_to layout zero r = []
pieces_up_to layout (suc n) r =
    if length r == 0 then [] else piece_by layout r ∷ pieces_up_to layout n (drop (piece_by layout r).span r)

-- all pieces of r. A piece has at least one byte, so there are at most as many pieces as bytes
abbrev pub pieces_of : Layout → List ℕ → List Piece
pieces_of layout r = pieces_up_to layout (length r) r

-- each of the first n sections of b is a section, none of b is lost, and none has findings about its place
abbrev pub CleanSections : ℕ → List ℕ → Type 0
CleanSections zero b = Unit {0}
CleanSections (suc n) b =
    0 < length b → (begins_section b ≡ true) × (place_findings (next_at b) (length b) ≡ none)
    × CleanSections n (drop (next_at b) b)
