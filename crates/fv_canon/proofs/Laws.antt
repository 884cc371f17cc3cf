-- The laws of this crate that the crates above may cite. Lemmas that are not exported here are internal.

-- the image of a volume has the volume's length
pub use Rattle.fv_canon.proofs.ImageLaws.{image_stays_long}
-- in an image the pads from the first edge on have erased data
pub use Rattle.fv_canon.proofs.AlignedLaws.{pads_erased}
pub use Rattle.fv_canon.proofs.StoredTilingLaws.{PadErased}
-- the image of a volume is as long as its header says, and the data of a file and the body of a section have at most
-- one image
pub use Rattle.fv_canon.proofs.OneImageLaws.{image_length, data_one, body_one}
-- volumes that are laid out fit
pub use Rattle.fv_canon.proofs.VolumeListLaws.{laid_fit}
-- bytes that are a volume at a depth within the limit are accepted. If a relation holds for each pair of items of two
-- lists, a weaker relation holds for each pair too. So a section at a depth is a section at the next depth too
pub use Rattle.fv_canon.proofs.HeadlineLaws.{accepted, pairs_more, stream_more, sections_more}
-- if all volumes of a flash image are laid out, some bytes are this image with each volume replaced by its canonical
-- image
pub use Rattle.fv_canon.proofs.LaidVolumeLaws.{laid_renewed}
-- a list that consists of the starts of the files of some volumes begins with these starts
pub use Rattle.fv_canon.proofs.PartLengthLaws.{begin_all}
-- a volume that does not fit is rejected
pub use Rattle.fv_canon.proofs.RejectedInputLaws.{not_placed}
-- the data of a file that was read, with a short header, are within the limit of a volume's length
pub use Rattle.fv_canon.proofs.FileItemLaws.{data_short}
-- if the starts are a layout of a volume, the digests with these starts cover all rows of the volume
pub use Rattle.fv_canon.proofs.DigestStartLemmas.{layout_covers}
