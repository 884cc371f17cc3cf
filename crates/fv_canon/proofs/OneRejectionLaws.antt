-- An input is rejected with at most one fault: the first fault of reading it, or the fault of its layout.
use Rattle.std.proofs.Common.{◌≡◌, ℕ, List, subst, inl, inr}
use Rattle.fv_base.specs.declared.fault.Fault.{Fault}
use Rattle.fv_tree.specs.Words.{Meaning, volumes_in}
use Rattle.fv_tree.proofs.Laws.{first_of_input}
use Rattle.fv_canon.specs.Words.{Rejects, FirstUnplaced}
use Rattle.fv_canon.proofs.FitLaws.{first_fault}
use Rattle.fv_canon.proofs.HeadlineLaws.{one_reading}

pub rejects_once : (b : List ℕ) (f g : Fault) → Rejects b f → Rejects b g → f ≡ g
rejects_once b f g (inl x) (inl y) = first_of_input b f g x.first y.first
rejects_once b f g (inl x) (inr (m, d, u)) = absurd (x.none m d)
rejects_once b f g (inr (m, d, u)) (inl y) = absurd (y.none m d)
rejects_once b f g (inr (m, d, u)) (inr (k, d', u')) =
    first_fault (volumes_in m) 0 f g u (subst (λ (x : Meaning). FirstUnplaced (volumes_in x) 0 g) (one_reading b k m d' d) u')
