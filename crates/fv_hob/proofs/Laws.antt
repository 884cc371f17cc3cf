-- The laws of hand-off blocks and their lists that crates above may cite. Each is passed on from the module that proves
-- it.

-- The type of a block is at offset 0 of its bytes, and its length follows from its kind, and fits a field of 16 bits.
-- Bytes begin with at most one block. If the checks hold, the block is there, and if a block is there, its checks hold.
pub use Rattle.fv_hob.proofs.HobCheckLemmas.{code_is, len_is, len_small, SameBlock, one_block, checks_hold, stands}
-- A block that is written is this block, and has the bytes from which it was read, unless it is unused.
pub use Rattle.fv_hob.proofs.HobImageLemmas.{written_again, block_kept}
-- A list that is written is this list, and has the bytes from which it was read, if no block is unused.
pub use Rattle.fv_hob.proofs.HobImageLemmas.{list_again, list_kept}
-- Bytes begin with at most one list.
pub use Rattle.fv_hob.proofs.HobListLemmas.{only_list}
-- Bytes that have a first fault do not begin with a list. The fault of a check that does not hold is not OutOfMemory.
pub use Rattle.fv_hob.proofs.HobReadLemmas.{none_after, no_want}
