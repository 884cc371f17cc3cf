-- The door of this crate: other crates import the definitions of its `specs/` from this file. Only definitions of
-- `specs/inner/` are imported directly.
pub use Rattle.fv_survey.specs.Tiling.{is_leaf, Follow, leaves_of, Tile, rows_below, TileEach}
pub use Rattle.fv_survey.specs.Forests.{Forest, Bare, Tree, rows_of, Nest, IsForest}
pub use Rattle.fv_survey.specs.FindingSets.{bits_of, bit_of_kind, has_finding, none, only, united, with_kind, with_if}
pub use Rattle.fv_survey.specs.Systems.{ffs1_guid, variables_guid, is_vendors, files_by, is_known, is_allowed}
pub use Rattle.fv_survey.specs.Starts.{has_header_len, has_right_header, may_begin, first_start}
pub use Rattle.fv_survey.specs.VolumeRules.{map_end, mapped_end, header_end, extent_len, ends_after, cut_before}
pub use Rattle.fv_survey.specs.VolumeRules.{volume_end, polarity_by, has_ext_part, ext_by, body_start, has_zero_sum}
pub use Rattle.fv_survey.specs.VolumeRules.{has_blocks, has_strict_len, is_whole, breaks, header_kinds, with_breaks}
pub use Rattle.fv_survey.specs.VolumeRules.{parts_by}
unfoldable pub use Rattle.fv_survey.specs.VolumeRules.{is_strict, header_findings}
pub use Rattle.fv_survey.specs.Portions.{PortionForm, portion_form, cut, ahead, stack, inside, opened, searched}
pub use Rattle.fv_survey.specs.Portions.{no_name, row_of}
pub use Rattle.fv_survey.specs.PieceRules.{header_len_by, size_by, fits, bytes_before, may_be_header, shows_mark}
pub use Rattle.fv_survey.specs.PieceRules.{is_ffs1, data_end, is_stub_state, is_read_whole, is_read_cut, file_rules}
pub use Rattle.fv_survey.specs.PieceRules.{with_broken, piece_with, system_by, first_kind, headed_piece}
pub use Rattle.fv_survey.specs.PieceRules.{HasStrictFault, BreaksRule, IsBroken, HasHead, IsCellPiece}
unfoldable pub use Rattle.fv_survey.specs.PieceRules.{sizes_by, sums_to_zero, resumes, lost_len, plain_piece}
unfoldable pub use Rattle.fv_survey.specs.PieceRules.{space_piece, counted_state, sort_by, is_tailed, file_piece}
unfoldable pub use Rattle.fv_survey.specs.PieceRules.{sound_piece, may_begin_cell, read_sizes, file_findings}
unfoldable pub use Rattle.fv_survey.specs.PieceRules.{damaged_piece, strict_kind, piece_by}
pub use Rattle.fv_survey.specs.Bodies.{cells_end, layout_of, cells_by}
pub use Rattle.fv_survey.specs.NameRules.{file_if, files_among, body_files, named_file, has_twins, current_files}
pub use Rattle.fv_survey.specs.NameRules.{is_top, has_top_elsewhere, files_findings}
unfoldable pub use Rattle.fv_survey.specs.NameRules.{name_findings}
pub use Rattle.fv_survey.specs.SectionRules.{begins_section, section_findings, may_follow, begins_usual, section_end}
pub use Rattle.fv_survey.specs.SectionRules.{next_section, place_findings, body_form, is_opened}
pub use Rattle.fv_survey.specs.Reading.{plain_opening, section_opening, lost_inside, volume_said, body_inside}
pub use Rattle.fv_survey.specs.Reading.{parts_inside, volume_inside, found_volume, run_row, run_inside, run_after}
pub use Rattle.fv_survey.specs.Reading.{data_reading, piece_said, file_inside, piece_inside, cells_row, cells_inside}
pub use Rattle.fv_survey.specs.Reading.{cells_after, kind_at, body_at, next_at, is_too_deep, body_reading}
pub use Rattle.fv_survey.specs.Reading.{body_portion, sections_inside, sections_after, row_as, first_row, inside_as}
pub use Rattle.fv_survey.specs.Reading.{inside_first, after_as, after_first, most_as, most_rows, rows_up_to}
pub use Rattle.fv_survey.specs.Reading.{rows_left, whole_portion, image_portion, whole_image, sections_portion, whole_sections}
unfoldable pub use Rattle.fv_survey.specs.Reading.{survey_of, survey_of_sections}
pub use Rattle.fv_survey.specs.Reads.{Reads}
pub use Rattle.fv_survey.specs.Agreement.{files_for, SameExtent, HasData, ReadAs, SameSection, SectionsAs}
pub use Rattle.fv_survey.specs.CleanReading.{Clean, CleanBody, CleanStream, named_piece, is_file, is_opened_file}
pub use Rattle.fv_survey.specs.CleanReading.{piece_data, CleanPieces, CleanVolume, CleanAt, IsCleanStream}
pub use Rattle.fv_survey.specs.CleanReading.{IsCleanVolume, files_as, superseded_as, NoFindings, IsVolumePortion}
pub use Rattle.fv_survey.specs.CleanReading.{Agree, image_volume, IsCleanImage}
pub use Rattle.fv_survey.specs.Runs.{is_searched, in_run, run_end, NoStart, Sought, PassesNothing}
pub use Rattle.fv_survey.specs.Fitting.{IsShallow, IsShallowRun, FitsAs, Fits}
pub use Rattle.fv_survey.specs.Honesty.{bytes_in, parts_in, cells_from, stream_end, stream_from, found_around}
pub use Rattle.fv_survey.specs.Honesty.{opened_around, breaks_names, VolumeBreaks, CellBreaks, EndsOdd, IsTooDeep}
pub use Rattle.fv_survey.specs.Honesty.{SectionBreaks, LostSections, LostInSection, LostInVolume, LostIn, Loses}
pub use Rattle.fv_survey.specs.Honesty.{UnreadBreaks, StandsAs, IsFounded, IsInLost, ReasonAs, IsHonest, whole_stream}
