-- The laws of inputs that are rejected: which inputs are rejected with which kinds of faults, and where the fault lies.
use Rattle.std.proofs.Common.{◌≡◌, ◌≢◌, ◌≤◌, ℕ, ◌⊎◌, ⊎_elim, List, arith, length, refl, sym, ap, ◌∙◌, subst, inl, inr, false}
use Rattle.fv_base.proofs.Laws.{or_more, first_only, out_of_memory, up_is_not_down}
use Rattle.fv_base.specs.declared.fault.FaultKind.{FaultKind}
use Rattle.fv_base.specs.declared.fault.Fault.{Fault}
use Rattle.fv_tree.specs.Words.{Accepted, IsFirstOfInput, NotRead, Meaning, volumes_in}
use Rattle.fv_tree.proofs.Laws.{IsOfInput, is_reading, fault_stands, first_within, stands_other}
use Rattle.fv_canon.specs.Words.{NormalisesTo, IsNotVolume, IsOfLayout, IsUnfit, NotPlaced, Rejects, OnlyWhatDoesNotFitIsRejected, Fits, Unfit}
use Rattle.fv_canon.proofs.FitLaws.{not_layout, unfit_has, unfit_is, unfit_none, unfit_place}
use Rattle.fv_canon.proofs.InsideImageLaws.{image_fits as has_image_fits}
use Rattle.fv_base.specs.declared.fault.FaultKind.TheVariants as kinds

-- ---- a volume that fits

-- an input that has an image is rejected only because memory ran out
pub not_read_never : (b image : List ℕ) (f : Fault) → (f ≡ out_of_memory) ⊎ NotRead b f → NormalisesTo b image → f ≡ out_of_memory
not_read_never b image f why (m, d, is) = first_only why (λ bad. bad.none m d)

-- the volume of an input that has an image fits
pub image_fits : (b image : List ℕ) (v : Meaning) → ((m : Meaning) → Accepted b m → m ≡ v) → NormalisesTo b image → Fits v
image_fits b image v only (m, d, is) = subst Fits (only m d) (has_image_fits m image is)

-- a volume whose layout fails with a fault is rejected with this fault, unless memory runs out
pub not_placed : (b : List ℕ) (v : Meaning) (f : Fault) → Accepted b v → (f ≡ out_of_memory) ⊎ Unfit v 0 f
    → (f ≡ out_of_memory) ⊎ Rejects b f
not_placed b v f d why = or_more why (λ unfit. inr (v, d, unfit))

-- an input that is not read because of a fault is rejected with this fault, unless memory runs out
pub not_read : (b : List ℕ) (f : Fault) → (f ≡ out_of_memory) ⊎ NotRead b f → (f ≡ out_of_memory) ⊎ Rejects b f
not_read b f why = or_more why (λ bad. inl bad)

-- ---- the kinds of faults

-- if a layout fails, the kind of the fault is neither ReadFault nor WriteFault
pub unfit_kind : (v : Meaning) (f : Fault) → (f ≡ out_of_memory) ⊎ Unfit v 0 f → IsOfInput f.kind
unfit_kind v f (inl want) = subst (λ (g : Fault). IsOfInput g.kind) (sym want) (λ e. cc, λ e. cc)
unfit_kind v f (inr unfit) = unfit_has (λ g. IsOfInput g.kind) (λ d. (λ e. cc, λ e. cc)) (λ d. (λ e. cc, λ e. cc)) (volumes_in v) 0 f unfit

-- ---- the place of a fault

-- the fault with which an input is rejected lies within the input or at its end
pub refused_within : (b : List ℕ) (e : Fault) → Rejects b e → e.place.offset ≤ length b
refused_within b e (inl bad) =
    ⊎_elim (λ first. (first_within b e first).0) (λ (m, accepted, less, is). rw is (omega (arith, less))) bad.first
refused_within b e (inr (m, accepted, unfit)) = omega (arith, unfit_place m 0 e unfit)

-- ---- which inputs are rejected with which kind of fault

-- the first fault of an input has a kind of the faults of reading, so the fault does not have any other kind
pub first_reads : (b : List ℕ) (f : Fault) (k : FaultKind) → is_reading k ≡ false → IsFirstOfInput b f → f.kind ≢ k
first_reads b f k other (inl first) = stands_other b f k other (fault_stands b f first)
first_reads b f k other (inr (m, d, less, is)) = λ same.
    up_is_not_down (is_reading k) (sym (ap is_reading same) ∙ ap (λ (g : Fault). is_reading g.kind) is) other

-- so the first fault of an input is not a fault of the layout
first_kind : (b : List ℕ) (f : Fault) → IsFirstOfInput b f → IsOfLayout f.kind → ⊥
first_kind b f first layout = ⊎_elim (first_reads b f kinds.TopAlignment refl first) (first_reads b f kinds.NoRoom refl first) layout

-- an input that is rejected with a fault of the layout does not fit; an input that is rejected with another fault is
-- not a volume
pub only_what_does_not_fit_is_rejected : OnlyWhatDoesNotFitIsRejected
only_what_does_not_fit_is_rejected b f (inl bad) = (λ layout. absurd (first_kind b f bad.first layout), λ other. bad.none)
only_what_does_not_fit_is_rejected b f (inr (m, d, unfit)) =
    (λ layout. (m, d, unfit_none m 0 f unfit), λ other. absurd (other (unfit_is m 0 f unfit)))

-- an input is not a volume if it is rejected with a fault that is neither out of memory nor a fault of the layout
pub unread_refused : (b : List ℕ) (f : Fault) → (f ≡ out_of_memory) ⊎ Rejects b f → f ≢ out_of_memory → (IsOfLayout f.kind → ⊥)
    → IsNotVolume b
unread_refused b f (inl want) memory other = absurd (memory want)
unread_refused b f (inr why) memory other = (only_what_does_not_fit_is_rejected b f why).1 other

-- a volume that does not fit is rejected with a fault of the layout, unless memory runs out
pub unfit_kind_of : (b : List ℕ) (f : Fault) → (f ≡ out_of_memory) ⊎ Rejects b f → IsUnfit b → (f ≡ out_of_memory) ⊎ IsOfLayout f.kind
unfit_kind_of b f (inl want) u = inl want
unfit_kind_of b f (inr (inl bad)) (m, d, unfit) = absurd (bad.none m d)
unfit_kind_of b f (inr (inr (m, d, unfit))) u = inr (unfit_is m 0 f unfit)

-- an input that is rejected with a fault of the layout does not fit, and the fault is the fault of the first volume in
-- the input that does not fit
pub refused_unplaced : (b : List ℕ) (f : Fault) → (f ≡ out_of_memory) ⊎ Rejects b f → IsOfLayout f.kind → NotPlaced b f
refused_unplaced b f (inl want) layout = absurd (not_layout f.kind layout (ap (λ (g : Fault). g.kind) want))
refused_unplaced b f (inr (inl bad)) layout = absurd (first_kind b f bad.first layout)
refused_unplaced b f (inr (inr why)) layout = why
