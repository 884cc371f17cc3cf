use Rattle.std.proofs.Common.{refl}
use Rattle.fv_variables.specs.Words.{rows_of}
use Rattle.fv_variables.proofs.HonestLaws.{honest}
use Rattle.fv_variables.proofs.RowLaws.{tiling}
use Rattle.fv_variables.proofs.StoreLaws.{chain_read, store_read}
use Rattle.fv_variables.proofs.walk.RowWalk.of_stores.Goals as goal

pub returns-clause-rows : goal.returns-clause-rows
unfolding rows_of
returns-clause-rows c = refl

pub returns-clause-tiling : goal.returns-clause-tiling
unfolding rows_of
returns-clause-tiling c = tiling c.args.bytes.now

pub returns-clause-honest : goal.returns-clause-honest
unfolding rows_of
returns-clause-honest c = honest c.args.bytes.now

pub returns-clause-store : goal.returns-clause-store
unfolding rows_of
returns-clause-store c = λ format vs is. store_read format vs c.args.bytes.now is

pub returns-clause-chain : goal.returns-clause-chain
unfolding rows_of
returns-clause-chain c = λ format vs begins. chain_read format vs c.args.bytes.now begins
