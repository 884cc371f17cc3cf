-- An input has at most one first fault: of the volume that it should be, or of the bytes after a volume.
use Rattle.std.proofs.Common.{◌≡◌, ℕ, List, sym, ap, ◌∙◌, arith, inl, inr}
use Rattle.fv_base.proofs.Laws.{First, depth_limit, outer_fault}
use Rattle.fv_base.specs.declared.fault.Fault.{Fault}
use Rattle.fv_tree.specs.Words.{IsFirstOfInput, length_of, outermost}
use Rattle.fv_tree.proofs.FirstLaws.{first_once}
use Rattle.fv_tree.proofs.RefusalLaws.{fault_refuses}
use Rattle.fv_tree.proofs.MeaningLaws.{one_beginning}
use Rattle.fv_base.specs.declared.fault.FaultKind.TheVariants as kinds

pub first_of_input : (b : List ℕ) (f g : Fault) → IsFirstOfInput b f → IsFirstOfInput b g → f ≡ g
first_of_input b f g (inl x) (inl y) = first_once depth_limit f g b outermost x y
first_of_input b f g (inl x) (inr (m, d, less, is)) =
    absurd (fault_refuses First depth_limit (length_of m) f b outermost m (omega (arith, less)) x d.1)
first_of_input b f g (inr (m, d, less, is)) (inl y) =
    absurd (fault_refuses First depth_limit (length_of m) g b outermost m (omega (arith, less)) y d.1)
first_of_input b f g (inr (m, d, less, is)) (inr (k, d', less', is')) =
    let one = one_beginning depth_limit (length_of m) (length_of k) b m k (omega (arith, less)) d.1 (omega (arith, less')) d'.1 in
    is ∙ ap (λ (n : ℕ). outer_fault kinds.Length n) one.1 ∙ sym is'
