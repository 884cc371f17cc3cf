-- The laws of this crate that crates above may cite. Each is passed on from the module that proves it. A lemma that is
-- not listed here is internal.

-- The volumes in some bytes begin at one list of places.
pub use Rattle.fv_flash.proofs.ScanLaws.{one_found, found_walk}
-- Some bytes have one list of volumes. If there is a volume, it begins at a place.
pub use Rattle.fv_flash.proofs.ScanLaws.{one_are, some_place}
-- The volumes in any bytes begin at some list of places, which a walk finds.
pub use Rattle.fv_flash.proofs.DecidedScanLaws.{found_walk_exists}
pub use Rattle.fv_flash.proofs.ScanLaws.{walk_found}
-- A volume at a place has one length, which is at least 64 and a multiple of 8, and it lies within the bytes.
pub use Rattle.fv_flash.proofs.ScanLaws.{one_length, at_least, at_multiple, at_within}
