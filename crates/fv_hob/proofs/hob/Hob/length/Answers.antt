use Rattle.std.proofs.Common.{arith}
use Rattle.fv_hob.proofs.HobCheckLemmas.{len_small}
use Rattle.fv_hob.proofs.hob.Hob.length.Goals as goal

pub overflow_cast-result : goal.overflow_cast-result
overflow_cast-result c =
    let read = c.self.invariant in
    omega (arith, c.len_of.ensures, len_small _ read.0 read.1)
