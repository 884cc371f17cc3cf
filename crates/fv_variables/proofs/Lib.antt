mod HonestLaws
pub mod Laws
mod ListLaws
mod RowLaws
mod SignLaws
mod StepLaws
mod StoreLaws
