use Rattle.std.proofs.Common.{◌≤◌}
use Rattle.fv_base.proofs.Laws.{arith, ap, length, subst, header_limit}
use Rattle.fv_head.specs.Words.{HeadFields, header_len_of, fields_held}
use Rattle.fv_head.proofs.HeadImageLemmas.{header_len_most}
use Rattle.fv_head.proofs.head.VolumeHead.header_len.Goals as goal

pub overflow_cast-result : goal.overflow_cast-result
overflow_cast-result c = omega (arith, header_len_most (fields_held c.self.inside) c.self.invariant, ap length c.as_slice.ensures)

pub overflow_add-result : goal.overflow_add-result
overflow_add-result c = omega (arith, header_len_most (fields_held c.self.inside) c.self.invariant, ap length c.as_slice.ensures)

pub overflow_mul-result : goal.overflow_mul-result
overflow_mul-result c = omega (arith, header_len_most (fields_held c.self.inside) c.self.invariant, ap length c.as_slice.ensures)

pub overflow_add-result-2 : goal.overflow_add-result-2
overflow_add-result-2 c = omega (arith, header_len_most (fields_held c.self.inside) c.self.invariant, ap length c.as_slice.ensures)

pub returns-clause-length : goal.returns-clause-length
returns-clause-length c = omega (arith, ap length c.as_slice.ensures, ap header_len_of c.self.view_is)

pub returns-clause-most : goal.returns-clause-most
returns-clause-most c =
    subst (λ (h : HeadFields). header_len_of h ≤ header_limit) c.self.view_is (header_len_most (fields_held c.self.inside) c.self.invariant)
