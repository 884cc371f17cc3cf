-- The door of this crate: other crates import the definitions of its `specs/` from this file. Only definitions of
-- `specs/inner/` are imported directly.
pub use Rattle.fv_command.specs.Endings.{exit_code, Ends, numbered_line, fault_line, refusal_line}
pub use Rattle.fv_command.specs.RunInputs.{Gives, TakenAt, GivesAt, GivingStops, InputStops, BeginsWith, BeginsNone}
pub use Rattle.fv_command.specs.PairRuns.{GivesImage, ListsHobs, StopsHobs, GivesVolume, SideStops}
pub use Rattle.fv_command.specs.PairRuns.{ComparisonRunText}
pub use Rattle.fv_command.specs.PackedSections.{numbered_in_body, numbered_parts, part_at, FindsPacked}
pub use Rattle.fv_command.specs.OpenRuns.{from_byte, ShowsContents, OpeningStops, PackedText, PackedStops, OpenText, NoVolume}
pub use Rattle.fv_command.specs.OpenRuns.{OpenStops}
pub use Rattle.fv_command.specs.ImageChecks.{outcome_line, checked_line, is_rejected, is_not_canonical, checks_status}
pub use Rattle.fv_command.specs.PartLines.{part_line, part_status, absent_line, found_line, search_line, opened_status}
pub use Rattle.fv_command.specs.PartLines.{found_status, search_status}
pub use Rattle.fv_command.specs.SurveyRuns.{survey_status, SurveyRunText, OpenedSurveyText}
pub use Rattle.fv_command.specs.SameRuns.{place_text, same_line, IsSameAnswer, SameRunText, SameStops}
pub use Rattle.fv_command.specs.Tasks.{AreCells, CheckText, TaskText}
pub use Rattle.fv_command.specs.Tasks.{MemoryRanOutInImage, MemoryRanOutForCopy, TaskRefusal}
pub use Rattle.fv_command.specs.PlanRuns.{unread, IsOpened, IsFirstSource, IsSecondSource, CommandRunText, StopsCommand}
pub use Rattle.fv_command.specs.PlanRuns.{HasText, Runs, RunsOver}
