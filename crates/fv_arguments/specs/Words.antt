-- The door of this crate: other crates import the definitions of its `specs/` from this file. Only definitions of
-- `specs/inner/` are imported directly.
pub use Rattle.fv_arguments.specs.Options.{flag_rule, option_rule, flag_app, one_input_app}
pub use Rattle.fv_arguments.specs.Options.{volume_app, image_app, list_app, hobs_app, extract_app, open_app, survey_app}
pub use Rattle.fv_arguments.specs.Options.{compare_app, same_app}
pub use Rattle.fv_arguments.specs.Options.{rows_in, faults_in, text_in, flag_in}
pub use Rattle.fv_arguments.specs.CommandLines.{plan_without_arguments, command_name, command_app}
pub use Rattle.fv_arguments.specs.CommandLines.{IsNumeralOf, IsNumberWord, IsInstanceWord, IsPartBy}
pub use Rattle.fv_arguments.specs.CommandLines.{IsImageWords, is_point, IsPathText, IsPathWord, IsAtWord, IsVolumeWords}
pub use Rattle.fv_arguments.specs.CommandLines.{HasInput, HasPart, HasTexts, AsksBy, Asks, AreRight}
