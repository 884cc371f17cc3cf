-- A walk finds the volumes in any bytes: at each multiple of 8 a volume begins, or the checks of a header have a fault.
use Rattle.std.proofs.Common.{◌≡◌, ℕ, zero, suc, ◌+◌, ◌*◌, ◌%◌, ◌<◌, ◌≤◌, [], ◌∷◌, ◌⊎◌, List, length, drop, refl, subst, arith, inl, inr}
use Rattle.fv_base.proofs.Laws.{IsBytes, cases_lt, bytes_drop}
use Rattle.fv_head.specs.Words.{HeadFields, BeginsVolume}
use Rattle.fv_head.specs.declared.extent.Extent.{Extent}
use Rattle.fv_head.proofs.Laws.{front_decided, front_never}
use Rattle.fv_flash.specs.Words.{VolumeAt, Found}
use Rattle.fv_flash.specs.inner.FoundWalks.{NoneBetween, FoundFrom}
use Rattle.fv_flash.proofs.ScanLaws.{from_joined, none_past, at_multiple, walk_found}

module _ (b : List ℕ) (from : ℕ) (mult : from % 8 ≡ 0) (none : (n : ℕ) → VolumeAt b from n → ⊥) where
  here : NoneBetween b from (from + 8)
  here k n l u m v = none n (subst (λ (j : ℕ). VolumeAt b j n) (omega (arith, mult, l, u, m)) v)

  joined : (to : ℕ) → NoneBetween b (from + 8) to → NoneBetween b from to
  joined to g k n l u m v = go (cases_lt k (from + 8)) where
    go : (k < from + 8) ⊎ (from + 8 ≤ k) → ⊥
    go (inl p) = here k n l p m v
    go (inr p) = g k n p u m v

  pub skip : (os : List ℕ) → FoundFrom (from + 8) b os → FoundFrom from b os
  skip [] walk = from_joined b from (from + 8) here walk
  skip (o ∷ os) (n, (l, e, free, v), walk) = (n, (omega (arith, l), e, joined o free, v), walk)

least : (b : List ℕ) (h : HeadFields) (e : Extent) → BeginsVolume h e b → 64 ≤ e.length
least b h e front = omega (arith, front.length_is, front.head.volume_least, front.head.least)

pub walk_exists : (b : List ℕ) → IsBytes b → (fuel from : ℕ) → from % 8 ≡ 0 → length b < from + 8 * fuel + 56 → (os : List ℕ) × FoundFrom from b os
walk_exists b small zero from mult short = ([], none_past b from (omega (arith, short)))
walk_exists b small (suc n) from mult short = elim (front_decided (drop from b) (bytes_drop from b small)) [
  | inl (e, h, front) ↦
      let v : VolumeAt b from e.length = (h, e, front, refl) in
      let long = least (drop from b) h e front in
      let mult' : (from + e.length) % 8 ≡ 0 = omega (arith, mult, at_multiple b from e.length v) in
      let (os, walk) = walk_exists b small n (from + e.length) mult' (omega (arith, short, long)) in
      (from ∷ os, (e.length, (omega arith, mult, (λ k m l u i w. omega (arith, l, u)), v), walk))
  | inr (f, first) ↦
      let (os, walk) = walk_exists b small n (from + 8) (omega (arith, mult)) (omega (arith, short)) in
      (os, skip b from mult (λ k v. front_never (drop from b) v.0 v.1 f v.2 first) os walk)
]

pub found_walk_exists : (b : List ℕ) → IsBytes b → (os : List ℕ) × FoundFrom 0 b os
found_walk_exists b small = walk_exists b small (length b) 0 refl (omega arith)

pub found_exists : (b : List ℕ) → IsBytes b → (os : List ℕ) × Found b os
found_exists b small = let (os, walk) = found_walk_exists b small in (os, walk_found b os walk)
