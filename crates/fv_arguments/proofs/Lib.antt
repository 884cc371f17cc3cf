pub mod ArgumentReadLemmas
pub mod PathLemmas
pub mod RefusalLemmas
pub mod TaskLemmas
pub mod TypeLemmas
