-- The door of this crate: other crates import the definitions of its `specs/` from this file.
pub use Rattle.fv_budget.specs.PackedFrames.{is_packed, packed_frame}
pub use Rattle.fv_budget.specs.Budgets.{nesting_limit, full_budget, contents_limit, after_opening, price, ran_out_opening}
pub use Rattle.fv_budget.specs.Budgets.{after_fault, ran_out_reading, after_reading}
