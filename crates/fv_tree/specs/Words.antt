-- The door of this crate: other crates import the definitions of its `specs/` from this file. Only definitions of
-- `specs/inner/` are imported directly.
pub use Rattle.fv_tree.specs.Meaning.{Meaning, Volume, FileMeanings, NoFiles, MoreFiles, FileMeaning, File}
pub use Rattle.fv_tree.specs.Meaning.{ContentMeaning, Plain, Sectioned, SectionMeanings, NoSections, MoreSections}
pub use Rattle.fv_tree.specs.Meaning.{SectionMeaning, Section, BodyMeaning, Leaf, Group, Nested, files_list}
pub use Rattle.fv_tree.specs.Meaning.{sections_list, head_of, files_of, length_of, file_name_of, attributes_of}
pub use Rattle.fv_tree.specs.Meaning.{content_of, body_len, sections_end, section_len, content_len, data_len_of}
pub use Rattle.fv_tree.specs.VolumeFiles.{FileForm, files_in, is_marked, named_form, is_stored_twin, NoStoredTwins}
pub use Rattle.fv_tree.specs.VolumeFiles.{superseded_by, current_in, top_name, is_top, end_of, TopAtEnd, AreCurrent}
pub use Rattle.fv_tree.specs.Denotes.{group_kind, volume_kind, Opens, holds_sections, Pairwise, SectionRelation}
pub use Rattle.fv_tree.specs.Denotes.{StreamRelation, VolumeRelation, StreamOver, MeansContent, MeansFile, VolumeOver}
pub use Rattle.fv_tree.specs.Denotes.{MeansBody, SectionOver, MeansSection, Stream, Denotes, Accepted, IsMeaning}
pub use Rattle.fv_tree.specs.MeaningParts.{files_from, sections_from, file_kind_of, plain_of, section_kind_of}
pub use Rattle.fv_tree.specs.MeaningParts.{section_is_extended, body_of, leaf_of, sections_in_data, sections_in}
pub use Rattle.fv_tree.specs.Volumes.{Inside, deeper, volumes_in, volumes_in_files, volumes_in_file, volumes_in_content}
pub use Rattle.fv_tree.specs.Volumes.{volumes_in_sections, volumes_in_section, volumes_in_body}
pub use Rattle.fv_tree.specs.ReadParts.{IsStoredFile, IsReadFile, IsStoredFrame, IsReadSection}
pub use Rattle.fv_tree.specs.WalkedSections.{shape_of, starts_by, starts_of, frames_of, tail_of, BeginsFramed, Step}
pub use Rattle.fv_tree.specs.WalkedSections.{each_by, body_by, section_over, unopened, section_by, content_by, IsKept}
pub use Rattle.fv_tree.specs.WalkedSections.{AreKept, IsKeptFile}
pub use Rattle.fv_tree.specs.KeptParts.{data_of, nested_list, traits_of}
pub use Rattle.fv_tree.specs.FirstFault.{moved_fault, Moved, body_place, data_place, body_at, data_at, Faulty}
pub use Rattle.fv_tree.specs.FirstFault.{FrameFaulty, IfFirst, OneOf, HasTwin, TopElsewhere, NamesFault, StoredFault}
pub use Rattle.fv_tree.specs.FirstFault.{StreamFault, FileFault, BodyFault, VolumeFault, InSection, InStream, InVolume}
pub use Rattle.fv_tree.specs.FirstFault.{outermost, IsFirstOfVolume, FaultHolds}
pub use Rattle.fv_tree.specs.InputFaults.{BytesFollowVolume, IsFirstOfInput, FaultHoldsInInput, NotRead, MemoryRanOut}
pub use Rattle.fv_tree.specs.StreamInputs.{AcceptedStream, HasFrame, IsLongStream, IsFirstOfStream, FaultHoldsInStream, NotStream}
pub use Rattle.fv_tree.specs.LocatedFiles.{BeginsTiled, IsFirstOfCells, NotTiled, header_len_by}
pub use Rattle.fv_tree.specs.LocatedFiles.{bare_form, file_form, filled, with_data}
pub use Rattle.fv_tree.specs.LocatedFiles.{AreFilesOf, BeginWithFiles, HasDataIn, IsFirstOfFiles}
pub use Rattle.fv_tree.specs.Unfixing.{Unfixes, IsUnfixed, UnfixStops}
pub use Rattle.fv_tree.specs.UnfixedInputs.{EndsWithVolume, BytesFollowExtent, UnfixesTo, IsFirstOfMarked, NotUnfixed}
pub use Rattle.fv_tree.specs.LostMarks.{body_in_volume, LosesMarks, DifferInMarksOnly}
pub use Rattle.fv_tree.specs.FileNames.{is_named, file_named, HasOrder}
pub use Rattle.fv_tree.specs.LookupInstances.{number_after, file_after, instance_of, file_of_type, preorder}
pub use Rattle.fv_tree.specs.LookupInstances.{inside_section, inside_body, of_type, section_of_type, security_core}
pub use Rattle.fv_tree.specs.LookupInstances.{frame_of_type, FindsSection, FindsFrame, IsNotSectioned}
pub use Rattle.fv_tree.specs.SectionWalks.{left_in, NestsAt, AreLevels}
pub use Rattle.fv_tree.specs.Views.{body_view, content_view}
pub use Rattle.fv_tree.specs.Difference.{is_ffs3, blocks_eq, entries_eq, ext_eq, Differs, has_steps, differ_in}
pub use Rattle.fv_tree.specs.Difference.{differ_unless, under, head_differs, difference, files_differ, file_differs}
pub use Rattle.fv_tree.specs.Difference.{content_differs, sections_differ, section_differs, body_differs}
