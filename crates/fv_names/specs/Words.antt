-- The door of this crate: other crates import the definitions of its `specs/` from this file. Only definitions of
-- `specs/inner/` are imported directly.
pub use Rattle.fv_names.specs.NamedFiles.{NamedFile, is_name, same_name, is_twin, NoTwins, replaced_by}
pub use Rattle.fv_names.specs.NameIndexes.{IsSixteenBytes, IsName, Halves, Entry, halves_in, halves_of, names_in}
pub use Rattle.fv_names.specs.NameIndexes.{numbered, halves_cmp, entry_cmp, IsIndex, entries_of, NeighboursDiffer}
pub use Rattle.fv_names.specs.NameIndexes.{numbers_in, IsNameOrder, numbers_of}
