-- The laws of this crate that crates above may cite. Each is passed on from the module that proves it. A lemma that is
-- not listed here is internal.

-- The default file and the default entry, which `get_or` returns for a place past the end of a list.
pub use Rattle.fv_names.proofs.IndexLaws.{no_named, no_entry}
-- The number of an entry of an index is the number of a file, and each file has an entry.
pub use Rattle.fv_names.proofs.NeighbourLaws.{number_within, entry_of}
-- Files whose names differ have no twins, and none of them is replaced.
pub use Rattle.fv_names.proofs.NeighbourLaws.{apart_twins, none_replaced}
