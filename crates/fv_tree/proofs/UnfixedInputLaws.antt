-- Why an input has no unfixed copy: its header or a cell has a fault (`stopped`), or bytes follow its volume
-- (`bytes_follow`).
use Rattle.std.proofs.Common.{◌≡◌, ℕ, ◌++◌, ◌<◌, List, length, take, drop, ap, arith, inl, inr, nat_eq, false}
use Rattle.fv_base.proofs.Laws.{nat_tests, take-append_seam, outer_fault}
use Rattle.fv_base.specs.declared.fault.Fault.{Fault}
use Rattle.fv_head.proofs.Laws.{one_front}
use Rattle.fv_head.specs.Words.{BeginsVolume, HeadFields}
use Rattle.fv_head.specs.declared.extent.Extent.{Extent}
use Rattle.fv_tree.specs.Words.{IsUnfixed, UnfixStops, NotUnfixed}
use Rattle.fv_tree.proofs.FixedMarkLaws.{none_unfixed}
use Rattle.fv_base.specs.declared.fault.FaultKind.TheVariants as kinds

-- if the header or a cell has a fault, the input has no unfixed copy
pub stopped : (input : List ℕ) (f : Fault) → UnfixStops input f → NotUnfixed input f
stopped input f stops = record { none = λ o to. none_unfixed input f stops o to.0; first = inl stops }

-- if bytes follow the volume, the input has no unfixed copy
pub bytes_follow : (input o : List ℕ) (f : Fault) (h : HeadFields) (e : Extent) → IsUnfixed input o → BeginsVolume h e input
    → nat_eq e.length (length input) ≡ false → f ≡ outer_fault kinds.Length e.length → NotUnfixed input f
bytes_follow input o f h e unfixed front other is =
    let less : e.length < length input = grind (arith, nat_tests, front.is_within) in
    record {
      none = λ x to. omega (arith, ap (λ (y : Extent). y.length) (one_front input h to.1.0 e to.1.1 front to.1.2).1, to.1.3, less);
      first = inr ((o, unfixed), (h, e, front, less, is));
    }

-- if all of a vector is overwritten, the vector has the new items
pub whole_kept : (new items : List ℕ) (n : ℕ) → length new ≡ n → take n (new ++ drop (length new) items) ≡ new
whole_kept new items n e = rw (← e) (take-append_seam new (drop (length new) items))
