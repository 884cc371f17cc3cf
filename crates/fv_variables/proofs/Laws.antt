-- The laws of the rows of variable stores that crates above may cite. Each is passed on from the module that proves it.

-- Every byte is in exactly one row.
pub use Rattle.fv_variables.proofs.RowLaws.{tiling, tiling_lists}
