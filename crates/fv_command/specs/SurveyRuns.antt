-- The text and the status of `survey`.
use Rattle.std.specs.Prelude.{◌≡◌, ◌⊎◌, ℕ, Bool, true, false, List, take}
use Rattle.std.specs.List.{concat}
use Rattle.fv_budget.specs.Words.{full_budget}
use Rattle.fv_level_lines.specs.Words.{are_clean, levels_lines, levels_text}
use Rattle.fv_levels.specs.Words.{levels_of}
use Rattle.fv_survey.specs.Words.{survey_of}
use Rattle.fv_survey_lines.specs.Words.{is_clean, rows_text, survey_text}
use Rattle.fv_command.specs.declared.status.Status.{Status}
use Rattle.fv_command.specs.declared.status.Status.TheVariants.{Done, Different, Incomplete}

-- the status of a survey with all its lines: Done if the image is clean, otherwise Different
abbrev pub survey_status : Bool → Status
survey_status true = Done
survey_status false = Different

-- the text and the status of `survey` for an image: all lines, and whether the image is clean; or the lines of the first
-- rows, and Incomplete, because memory ran out
abbrev pub SurveyRunText : List ℕ → Status → List ℕ → Type 0
SurveyRunText image status text =
    ((status ≡ survey_status (is_clean (survey_of image))) × (text ≡ survey_text image))
    ⊎ ((status ≡ Incomplete) × ((n : ℕ) × (text ≡ rows_text (take n (survey_of image)))))

-- the text and the status of `survey --open` for an image: all lines of all its levels, and whether all of them are
-- clean; or the first lines, and Incomplete, because memory ran out
abbrev pub OpenedSurveyText : List ℕ → Status → List ℕ → Type 0
OpenedSurveyText image status text =
    ((status ≡ survey_status (are_clean (levels_of image full_budget))) × (text ≡ levels_text (levels_of image full_budget)))
    ⊎ ((status ≡ Incomplete) × ((n : ℕ) × (text ≡ concat (take n (levels_lines (levels_of image full_budget))))))
