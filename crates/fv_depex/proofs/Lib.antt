pub mod DecidedExpressionLemmas
pub mod Laws
pub mod OpLemmas
pub mod OpReadLemmas
pub mod PathLemmas
pub mod TruthLemmas
