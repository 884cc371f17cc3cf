-- A volume that fits has a layout, which places the volume's files and the files of each volume inside. A volume that
-- does not fit, and no other volume, has a fault of the layout. This fault is at offset 0.
use Rattle.std.proofs.Common.{◌≡◌, ◌≢◌, ◌⊎◌, inl, inr, ⊎_elim, ◌+◌, ℕ, List, [], ◌∷◌, refl, subst, sym}
use Rattle.fv_base.proofs.Laws.{arith, common_steps, or_more}
use Rattle.fv_base.specs.declared.fault.Fault.{Fault}
use Rattle.fv_base.specs.declared.fault.FaultKind.{FaultKind}
use Rattle.fv_base.specs.declared.fault.FaultKind.TheVariants as kinds
use Rattle.fv_head.specs.Words.{first_edge}
use Rattle.fv_placement.proofs.Laws.{agree, placed_or_not, top_none}
use Rattle.fv_tree.specs.Words.{Meaning, head_of, length_of, Inside, volumes_in}
use Rattle.fv_canon.specs.Words.{IsOfLayout, WhatDoesNotFitIsRejected, placement_items, AreStarts, IsPlaced, Fits, AreLeast, StartsOfEach}
use Rattle.fv_canon.specs.Words.{AreAllStarts, layout_fault, AllFit, UnfitHere, FirstUnplaced, Unfit}
use Rattle.fv_canon.proofs.VolumeListLaws.{fit_laid}

-- ---- the kind and the place of a fault of the layout

-- a property of both faults of the layout, at every depth, is a property of the fault of a volume that does not fit
module _ (P : Fault → Type 0) (top : (depth : ℕ) → P (layout_fault kinds.TopAlignment depth))
    (room : (depth : ℕ) → P (layout_fault kinds.NoRoom depth)) where
  pub unfit_has : (vs : List Inside) (depth : ℕ) (f : Fault) → FirstUnplaced vs depth f → P f
  unfit_has [] depth f unfit = absurd unfit
  unfit_has (v ∷ vs) depth f (inl (inl (off, is))) = subst P (sym is) (top (depth + v.depth))
  unfit_has (v ∷ vs) depth f (inl (inr (short, is))) = subst P (sym is) (room (depth + v.depth))
  unfit_has (v ∷ vs) depth f (inr (placed, unfit)) = unfit_has vs depth f unfit

pub unfit_is : (m : Meaning) (depth : ℕ) (f : Fault) → Unfit m depth f → IsOfLayout f.kind
unfit_is m depth f unfit = unfit_has (λ g. IsOfLayout g.kind) (λ d. inl refl) (λ d. inr refl) (volumes_in m) depth f unfit

-- out of memory is not a fault of the layout
pub not_layout : (kind : FaultKind) → IsOfLayout kind → kind ≢ kinds.OutOfMemory
not_layout kind layout = grind (arith, common_steps)

-- the fault of a volume that does not fit is at offset 0
pub unfit_place : (m : Meaning) (depth : ℕ) (f : Fault) → Unfit m depth f → f.place.offset ≡ 0
unfit_place m depth f unfit = unfit_has (λ g. g.place.offset ≡ 0) (λ d. refl) (λ d. refl) (volumes_in m) depth f unfit

-- ---- volumes that fit

-- a volume that fits has a layout
pub fits_laid : (m : Meaning) → Fits m → (starts : List ℕ) × AreAllStarts m starts
fits_laid m fit = fit_laid (volumes_in m) fit

-- a volume with a fault of the layout has no placement
here_none : (v : Inside) (depth : ℕ) (f : Fault) → UnfitHere v.volume depth f → IsPlaced v → ⊥
here_none v depth f (inl (off, is)) (own, placed) = top_none _ _ (placement_items v.volume) own off placed.placement.follow
here_none v depth f (inr (short, is)) (own, placed) = short.none own placed.placement

-- if one of the volumes has a fault of the layout, not all volumes fit
pub first_none : (vs : List Inside) (depth : ℕ) (f : Fault) → FirstUnplaced vs depth f → AllFit vs → ⊥
first_none [] depth f un fit = un
first_none (v ∷ vs) depth f (inl un) (placed, fit) = here_none v _ f un placed
first_none (v ∷ vs) depth f (inr (here, un)) (placed, fit) = first_none vs depth f un fit

pub unfit_none : (m : Meaning) (depth : ℕ) (f : Fault) → Unfit m depth f → Fits m → ⊥
unfit_none m depth f un fit = first_none (volumes_in m) depth f un fit

-- a volume has at most one fault of the layout
here_fault : (m : Meaning) (depth : ℕ) (f g : Fault) → UnfitHere m depth f → UnfitHere m depth g → f ≡ g
here_fault m depth f g un other = grind (arith, common_steps)

pub first_fault : (vs : List Inside) (depth : ℕ) (f g : Fault) → FirstUnplaced vs depth f → FirstUnplaced vs depth g → f ≡ g
first_fault [] depth f g un other = absurd un
first_fault (v ∷ vs) depth f g (inl un) (inl other) = here_fault v.volume _ f g un other
first_fault (v ∷ vs) depth f g (inl un) (inr (placed, other)) = absurd (here_none v _ f un placed)
first_fault (v ∷ vs) depth f g (inr (placed, un)) (inl other) = absurd (here_none v _ g other placed)
first_fault (v ∷ vs) depth f g (inr (placed, un)) (inr (placed', other)) = first_fault vs depth f g un other

-- starts that are the least starts of each volume, and a placement of each volume's files, are the layout
pub least_are : (vs : List Inside) (starts : List ℕ) → StartsOfEach AreLeast vs starts → StartsOfEach AreStarts vs starts
least_are [] starts laid = laid
least_are (v ∷ vs) starts (own, inner, text, (least, placed), laid) =
    (own, inner, text, agree _ _ (placement_items v.volume) own least placed, least_are vs inner laid)

-- ---- a layout or a fault

-- the volume's own files have a placement, or the volume has a fault of the layout
here_or : (m : Meaning) (depth : ℕ) → ((starts : List ℕ) × AreStarts m starts) ⊎ ((f : Fault) × UnfitHere m depth f)
here_or m depth = or_more (placed_or_not (length_of m) (first_edge (head_of m) (head_of m).ext) (placement_items m)) (λ other. elim other [
  | inl off ↦ (layout_fault kinds.TopAlignment depth, inl (off, refl))
  | inr short ↦ (layout_fault kinds.NoRoom depth, inr (short, refl))
])

all_or : (vs : List Inside) (depth : ℕ) → AllFit vs ⊎ ((f : Fault) × FirstUnplaced vs depth f)
all_or [] depth = inl tt
all_or (v ∷ vs) depth = grind (arith, common_steps, here_or v.volume (depth + v.depth), all_or vs depth) steps 400000

-- a volume fits or has a fault of the layout
pub fits_or : (m : Meaning) → Fits m ⊎ ((f : Fault) × Unfit m 0 f)
fits_or m = all_or (volumes_in m) 0

-- an input that does not fit is rejected with NoRoom or TopAlignment
pub unfit_is_refused : WhatDoesNotFitIsRejected
unfit_is_refused input (m, d, unfit) = ⊎_elim (λ fits. absurd (unfit fits)) (λ (f, bad). (f, inr (m, d, bad), unfit_is m 0 f bad)) (fits_or m)
