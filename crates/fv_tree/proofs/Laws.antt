-- The laws of this crate that the crates above may cite. Lemmas that are not exported here are internal.

-- ---- a meaning

-- `files_list` undoes `files_from`
pub use Rattle.fv_tree.proofs.VolumePartLaws.{files_list_back}
-- two lists that agree item by item still agree if a pair of items that agree is appended
pub use Rattle.fv_tree.proofs.ListPairs.{pairs_push}
-- a stream, a section, a body and a content have the length of the bytes that they were read from
pub use Rattle.fv_tree.proofs.LengthLaws.{AsLong, stream_long, section_long, body_long, content_long}
-- a volume has at most as many files as bytes, and fewer than 2 ^ 32 files
pub use Rattle.fv_tree.proofs.FileCountLaws.{volume_files_few, few_of}
-- the contents of a part are smaller than the part
pub use Rattle.fv_tree.proofs.SizeLaws.{section_falls, section_body_falls, file_falls, content_falls}
-- the volumes in a section are the volumes in its body, one level deeper
pub use Rattle.fv_tree.proofs.DepthLaws.{in_section}
-- the contents of a part nest at most as deep as the part, and one level less deep if it is a group or an opened volume
pub use Rattle.fv_tree.proofs.DepthLaws.{nests_files, nests_content, nests_sections, nests_body, nests_group, nests_nested}
-- ---- a volume

-- bytes that begin with a volume begin with its header
pub use Rattle.fv_tree.proofs.VolumePartLaws.{front_of}
-- bytes are a volume of at most one meaning, and begin with at most one volume
pub use Rattle.fv_tree.proofs.MeaningLaws.{one_meaning, one_beginning}
-- two current files at different places have different names; having the same name is symmetric
pub use Rattle.fv_tree.proofs.TwinLaws.{names_differ}
pub use Rattle.fv_tree.proofs.NamesFaultLaws.{same_name_back}
-- ---- a fault

-- bytes have at most one first fault, and none if they begin with a volume; the condition of a first fault holds
pub use Rattle.fv_tree.proofs.FirstLaws.{first_once}
pub use Rattle.fv_tree.proofs.RefusalLaws.{fault_refuses}
pub use Rattle.fv_tree.proofs.FaultLaws.{fault_stands}
-- an input has at most one first fault
pub use Rattle.fv_tree.proofs.OneFirstLaws.{first_of_input}
-- bytes either begin with a volume or have a first fault, and an input either is a volume or has a first fault
pub use Rattle.fv_tree.proofs.DecidedLaws.{volume_decided, input_decided}
-- a first fault lies within the bytes or at their end, and at most 8 levels deep
pub use Rattle.fv_tree.proofs.FaultPlaceLaws.{first_within}
-- the faults of reading have one of the first 21 kinds
pub use Rattle.fv_tree.proofs.FaultKindLaws.{is_reading, stands_reading, stands_other}
-- ---- a whole input

-- an input that is a volume begins with this volume. An input is a volume, and only this volume, if the input ends with
-- the volume that it begins with. An input is not a volume if it does not begin with a volume, or if bytes follow the
-- volume
pub use Rattle.fv_tree.proofs.WholeInputLaws.{input_prefix, end_found, end_only, volume_refused, end_refused}
-- an input for which memory ran out begins with the header of a volume
pub use Rattle.fv_tree.proofs.WholeInputLaws.{ran_out}
-- the faults of an input are not faults of a reader or a writer
pub use Rattle.fv_tree.proofs.WholeInputLaws.{IsOfInput, input_kind, stood_kind}
-- ---- a stream of sections that is a whole input

-- bytes are a stream of at most one list of sections
pub use Rattle.fv_tree.proofs.StreamInputLaws.{stream_only}
-- ---- how the body of a section is read

-- A test decides whether a body is opened as a volume. A body that is read as sections is the body of a group, a body
-- that is read as a volume is opened, and a group is not a section that holds a volume.
pub use Rattle.fv_tree.proofs.SectionShapeLaws.{opens_decides, group_shape, volume_shape, group_is_no_volume}
-- ---- the files as they are stored

-- the value that a loop over files reads after the last file
pub use Rattle.fv_tree.proofs.NamedLaws.{no_file}
-- bytes that are a volume begin with its files; bytes begin with the files of at most one volume, and contain the data
-- of each
pub use Rattle.fv_tree.proofs.LocatedLaws.{volume_files, one_files, begun_data}
-- No cells tile the body of a volume if its header or a cell has a fault.
pub use Rattle.fv_tree.proofs.VolumeCellLaws.{bad_cell, bad_header}
-- ---- clearing the bits of fixed files

-- if the bytes before the first file and the number of bytes are unchanged, the bytes begin with the same header. This is
-- so after fixed bits were cleared
pub use Rattle.fv_tree.proofs.FixedMarkLaws.{header_kept, Kept, kept}
-- if all of a vector is overwritten, the vector has the new items
pub use Rattle.fv_tree.proofs.UnfixedInputLaws.{whole_kept}
-- ---- the first difference of two meanings

-- the path to a first difference has at most 18 steps
pub use Rattle.fv_tree.proofs.FewStepLaws.{few_steps}
