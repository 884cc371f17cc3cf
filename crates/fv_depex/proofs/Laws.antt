-- The laws of dependency expressions that crates above may cite. Each is passed on from the module that proves it.

-- Bytes spell at most one list of ops and one rest, and the bytes that are written for these ops and this rest spell
-- them too. The bytes of joined ops are the joined bytes of the ops. A whole expression is a list of ops that may
-- follow one another, and then END.
pub use Rattle.fv_depex.proofs.PathLemmas.{one_spelling, spelled_again, bytes_join, IsEnded, whole_ended}
-- Ops are the ops of at most one tree. The ops of a tree leave its truth value on the stack; BEFORE and AFTER leave none.
pub use Rattle.fv_depex.proofs.TruthLemmas.{one_tree, truth_of_tree, none_of_order}
-- Bytes begin with at most one op. If the checks hold, the op is there, and if an op may be there, its checks hold.
pub use Rattle.fv_depex.proofs.OpLemmas.{same_op, op_stands, checks_hold}
-- Bytes that have a first fault do not spell an expression. Bytes that spell an expression begin with an op that may be
-- the first. The fault of a check that does not hold is not OutOfMemory.
pub use Rattle.fv_depex.proofs.OpReadLemmas.{none_after, spells_first, no_want}
