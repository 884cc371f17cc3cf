-- A flash image has a renewed image, or it is longer than the limit or one of its volumes is rejected, and never both. The
-- steps:
-- 1. If each volume that a walk finds has a canonical image, the renewed image is joined from them (`build`).
-- 2. Otherwise the first volume without an image is rejected (`images`).
use Rattle.std.proofs.Common.{◌≡◌, ◌⊎◌, ◌≤◌, ◌+◌, ◌-◌, ℕ, [], ◌∷◌, ◌++◌, List, length, drop}
use Rattle.fv_base.proofs.Laws.{AllByRecursion, cases_lt, drop_at, IsBytes, bytes_drop, bytes_take, outer_fault, volume_limit}
use Rattle.fv_base.proofs.Laws.{field, in_middle, refl, sym, ap, ◌∙◌, subst, arith, inl, inr, append_assoc, length-append, length-drop, length-take-le}
use Rattle.fv_base.specs.declared.fault.Fault.{Fault}
use Rattle.fv_flash.specs.inner.FoundWalks.{FoundFrom}
use Rattle.fv_flash.proofs.Laws.{at_within, found_walk_exists, one_found, one_length, walk_found}
use Rattle.fv_tree.specs.Words.{moved_fault}
use Rattle.fv_canon.specs.Words.{NormalisesTo, FirstRejected, HasImageAt, IsNormalisedAt, NormalisesAll, RejectsAll}
use Rattle.fv_canon.proofs.ImageLaws.{every_input, never_both}
use Rattle.fv_canon.proofs.HeadlineLaws.{image_keeps_length_and_meaning}
use Rattle.fv_canon.proofs.FlashImageLaws.{RenewsFrom, renewed_is, renews_more}
use Rattle.fv_base.specs.declared.fault.FaultKind.TheVariants as kinds

-- ---- each volume has an image

-- if each volume that a walk finds has a canonical image, there are renewed bytes after the bytes up to a place
build : (b : List ℕ) (from : ℕ) (os bytes : List ℕ) → length bytes ≡ from → from ≤ length b → FoundFrom from b os
    → AllByRecursion (HasImageAt b) os → (rest : List ℕ) × RenewsFrom from b os (bytes ++ rest) × (length (bytes ++ rest) ≡ length b)
build b from [] bytes long within walk all =
    (drop from b, drop_at bytes (drop from b) from long, omega (arith, length-append {A = ℕ}, long, within, length-drop from b))
build b from (o ∷ os) bytes long within (n, (l, e, none, v), walk) ((m, image, w, to), all) =
    let x : List ℕ = field from (o - from) b in
    let inside = at_within b o n v in
    let same : m ≡ n = one_length b o m n w v in
    let gap : length x ≡ o - from = length-take-le (o - from) (drop from b) (omega (arith, l, inside, length-drop from b)) in
    let to' : NormalisesTo (field o n b) image = subst (λ (i : ℕ). NormalisesTo (field o i b) image) same to in
    let size : length image ≡ n =
    (image_keeps_length_and_meaning (field o n b) image to').0 ∙ length-take-le n (drop o b) (omega (arith, inside, length-drop o b)) in
    let front : length (bytes ++ x) ≡ o = omega (arith, length-append {A = ℕ}, long, gap, l) in
    let next : length (bytes ++ (x ++ image)) ≡ o + n = omega (arith, length-append {A = ℕ}, long, gap, size, l) in
    let (rest, more, whole) = build b (o + n) os (bytes ++ (x ++ image)) next inside walk all in
    let text : (bytes ++ (x ++ image)) ++ rest ≡ bytes ++ (x ++ (image ++ rest)) =
    append_assoc bytes (x ++ image) rest ∙ ap (λ (y : List ℕ). bytes ++ y) (append_assoc x image rest) in (
      x ++ (image ++ rest),
      renews_more b os bytes x image rest from o n l v refl long gap front size to' (subst (RenewsFrom (o + n) b os) text more),
      ap length (sym text) ∙ whole,
    )

-- each volume that a walk finds has an image, or the first one without an image is rejected
images : (b : List ℕ) → IsBytes b → (from : ℕ) (os : List ℕ) → FoundFrom from b os
    → AllByRecursion (HasImageAt b) os ⊎ ((f : Fault) × FirstRejected b os f)
images b small from [] walk = inl tt
images b small from (o ∷ os) (n, (l, e, none, v), walk) = elim (every_input (field o n b) (bytes_take n (drop o b) (bytes_drop o b small))) [
  | inr (f, bad) ↦
      inr (moved_fault o f.place.depth f, record { before = []; place = o; after = os; split = refl; images = tt; rejected = (n, v, f, bad, refl) })
  | inl (image, to) ↦ elim (images b small (o + n) os walk) [
    | inl all ↦ inl ((n, image, v, to), all)
    | inr (f, r) ↦ inr (
      f,
      record {
        before = o ∷ r.before;
        place = r.place;
        after = r.after;
        split = ap (λ (xs : List ℕ). o ∷ xs) r.split;
        images = ((n, image, v, to), r.images);
        rejected = r.rejected;
      },
    )
  ]
]

pub every_image : (b : List ℕ) → IsBytes b → ((o : List ℕ) × NormalisesAll b o) ⊎ ((f : Fault) × RejectsAll b f)
every_image b small = elim (cases_lt volume_limit (length b)) [
  | inl long ↦ inr (outer_fault kinds.Length volume_limit, inl (long, refl))
  | inr short ↦
      let (os, walk) = found_walk_exists b small in
      elim (images b small 0 os walk) [
        | inl all ↦
            let (o, renews, whole) = build b 0 os [] refl (omega arith) walk all in
            inl (o, (short, os, walk_found b os walk, renewed_is b os o renews whole))
        | inr (f, r) ↦ inr (f, inr (short, os, walk_found b os walk, r))
      ]
]

pub never_image : (b o : List ℕ) (f : Fault) → NormalisesAll b o → RejectsAll b f → ⊥
never_image b o f (short, places, found, r) (inl (long, is)) = omega (arith, short, long)
never_image b o f (short, places, found, r) (inr (short', places', found', stops)) =
    let (n, v, to) = in_middle (IsNormalisedAt b o) stops.before stops.place stops.after
    (rw (one_found b places places' found found', stops.split) at r.volumes) in
    let (m, w, own, rejected, is) = stops.rejected in
    never_both (field stops.place m b) (field stops.place m o) own (rw (one_length b stops.place n m v w) at to) rejected
