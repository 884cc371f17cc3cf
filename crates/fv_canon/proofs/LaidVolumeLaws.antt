-- The volumes of a flash image are laid out, and then their images are put one after another. In a renewed image each
-- volume of the flash image is replaced by its canonical image. The steps:
-- 1. The fault of a rejected volume is moved by the volume's place in the flash image (`told_at`). Volumes that are
--    laid out have images (`laid_images`).
-- 2. If the first volumes are laid out and the next volume is rejected, this volume is the first that is rejected
--    (`lays_stop`).
-- 3. The loop keeps `PutsVolumes`: the bytes that were put so far, followed by the rest of any renewed image, are a
--    renewed image. `PutsVolumes` holds at first (`laid_none`) and after each volume (`laid_more`). At the end all bytes
--    are put (`laid_all`).
-- 4. So a flash image whose volumes are laid out has a renewed image (`laid_renewed`).
use Rattle.std.proofs.Common.{◌≡◌, ◌≢◌, ◌⊎◌, ◌≤◌, ◌<◌, ◌+◌, ◌-◌, ℕ, [], ◌∷◌, ◌++◌, List, length, take, drop, get_or, refl, sym, ap, ◌∙◌, subst, arith}
use Rattle.std.proofs.Common.{length-take}
use Rattle.fv_base.proofs.Laws.{inl, inr, append_assoc, length-append, length-drop, length-take-le, take-append-drop, common_steps, AllByRecursion}
use Rattle.fv_base.proofs.Laws.{drop_at, drop_more, map-append, out_of_memory, volume_limit, WalkLaws, field, at_index, or_more, want_known}
use Rattle.fv_base.specs.declared.fault.Fault.{Fault}
use Rattle.fv_flash.proofs.Laws.{at_within, found_walk, one_length}
use Rattle.fv_flash.specs.inner.FoundWalks.{FoundFrom}
use Rattle.fv_tree.specs.Words.{Accepted, moved_fault, Meaning, head_of}
use Rattle.fv_flash.specs.Words.{Found, VolumeAt, offsets_of}
use Rattle.fv_flash.specs.declared.scanner.FoundVolume.{FoundVolume}
use Rattle.fv_canon.specs.Words.{IsImage, NormalisesTo, Rejects, FirstRejected, HasImageAt, NormalisesAll, RejectedAt, AreLaid, IsLaid, IsLaidOut}
use Rattle.fv_canon.specs.Words.{volume_starts}
use Rattle.fv_canon.specs.declared.flash_image.LocatedVolume.{LocatedVolume}
use Rattle.fv_canon.proofs.FlashImageLaws.{RenewsFrom, renewed_is, renews_more}
use Rattle.fv_canon.proofs.ImageLaws.{image_stays_long}

-- ---- one volume

-- memory ran out, or the fault is the volume's own fault, moved by the volume's place
pub told_at : (b x : List ℕ) (p n : ℕ) (own f : Fault) → VolumeAt b p n → x ≡ field p n b
    → (own ≡ out_of_memory) ⊎ Rejects x own
    → (f ≢ out_of_memory → (own ≢ out_of_memory) × (f ≡ moved_fault p own.place.depth own))
    → (f ≡ out_of_memory) ⊎ RejectedAt b p f
told_at b x p n own f v is why told = or_more (want_known f) (λ other. elim why [
  | inl want ↦ absurd ((told other).0 want)
  | inr rejected ↦ (n, v, own, subst (λ (l : List ℕ). Rejects l own) is rejected, (told other).1)
])

-- the volume has the length that its header states
laid_long : (b : List ℕ) (p n : ℕ) (m : Meaning) → VolumeAt b p n → Accepted (field p n b) m → n ≡ (head_of m).length
laid_long b p n m v accepted = grind (arith, common_steps, length-take-le, length-drop, at_within)

-- ---- the volumes, laid out one after another

-- all volumes that are laid out have images
laid_images : (b : List ℕ) (volumes : List LocatedVolume) → AllByRecursion (IsLaid b) volumes
    → AllByRecursion (HasImageAt b) (volume_starts volumes)
laid_images b [] all = tt
laid_images b (v ∷ vs) ((n, at, accepted, image), all) = ((n, image.0, at, (v.laid, accepted, image.1)), laid_images b vs all)

-- if the first volumes are laid out and the next volume is rejected, this volume is the first that is rejected
pub lays_stop : (b : List ℕ) (found : List FoundVolume) (i : ℕ) (d : FoundVolume) (volumes : List LocatedVolume) (f : Fault)
    → AreLaid b (offsets_of (take i found)) volumes → i < length found → (f ≡ out_of_memory) ⊎ RejectedAt b (get_or found i d).offset f
    → (f ≡ out_of_memory) ⊎ FirstRejected b (offsets_of found) f
lays_stop b found i d volumes f (same, all) less why = or_more why (λ rejected. record {
  before = offsets_of (take i found);
  place = (get_or found i d).offset;
  after = offsets_of (drop (i + 1) found);
  split = ap offsets_of (sym (take-append-drop i found) ∙ ap (λ (l : List FoundVolume). take i found ++ l) (drop_more found i d less))
      ∙ map-append (λ (v : FoundVolume). v.offset) (take i found) (get_or found i d ∷ drop (i + 1) found);
  images = subst (AllByRecursion (HasImageAt b)) same (laid_images b volumes all);
  rejected = rejected;
})

-- ---- the loop over the volumes that are laid out

-- the volume ends within the limit
pub laid_ends : (b : List ℕ) (volumes : List LocatedVolume) (i : ℕ) (v : LocatedVolume) → IsLaidOut b volumes → i < length volumes
    → v ≡ get_or volumes i v → v.start + (head_of v.laid).length ≤ volume_limit
laid_ends b volumes i v (short, places, found, (same, all)) less is =
    let at : IsLaid b v = subst (IsLaid b) (sym is) (at_index (IsLaid b) volumes i v all less) in
    omega (arith, short, at_within b v.start at.0 at.1, laid_long b v.start at.0 v.laid at.1 at.2)

-- the sink took `bytes`, the first `from` bytes of a renewed image. If bytes follow in which the volumes that are left
-- are renewed, all these bytes are a whole renewed image
pub record PutsVolumes {S : Type 0} (takes : S → List ℕ → S → Type 0) (s t : S) (b : List ℕ) (volumes left : List LocatedVolume) (from : ℕ) : Type 0 where
  pub bytes : List ℕ
  pub taken : takes s bytes t
  pub long : length bytes ≡ from
  pub inside : from ≤ length b
  pub found : FoundFrom from b (volume_starts left)
  pub laid : AllByRecursion (IsLaid b) left
  pub whole : (rest : List ℕ) → RenewsFrom from b (volume_starts left) (bytes ++ rest) → RenewsFrom 0 b (volume_starts volumes) (bytes ++ rest)

module _ {S : Type 0} (takes : S → List ℕ → S → Type 0) (laws : WalkLaws takes) (s : S) (b : List ℕ) (volumes : List LocatedVolume) where
  -- at first nothing is put
  pub laid_none : IsLaidOut b volumes → PutsVolumes takes s s b volumes volumes 0
  laid_none (short, places, found, (same, all)) = grind (arith, common_steps, found_walk) steps 400000

  -- the next volume begins after the bytes that were put, and lies within the flash image
  pub laid_next : {t : S} (left : List LocatedVolume) (from : ℕ) (v : LocatedVolume) (vs : List LocatedVolume)
      → PutsVolumes takes s t b volumes left from → left ≡ v ∷ vs → (from ≤ v.start) × (v.start ≤ length b)
  laid_next {t} left from v vs puts' now = grind (arith, common_steps, at_within) steps 400000

  -- after the bytes up to the next volume and this volume's image are put, `PutsVolumes` holds again
  pub laid_more : {t u w : S} (left : List LocatedVolume) (from : ℕ) (v : LocatedVolume) (vs : List LocatedVolume) (gap image : List ℕ)
      → PutsVolumes takes s t b volumes left from → left ≡ v ∷ vs → gap ≡ field from (v.start - from) b → takes t gap u
      → IsImage v.laid image → takes u image w → PutsVolumes takes s w b volumes vs (v.start + (head_of v.laid).length)
  laid_more {t} {u} {w} left from v vs gap image puts' now is put is_image put' =
      let puts = subst (λ (xs : List LocatedVolume). PutsVolumes takes s t b volumes xs from) now puts' in
      let p : ℕ = v.start in
      let n : ℕ = puts.laid.0.0 in
      let volume : VolumeAt b p n = puts.laid.0.1 in
      let to : NormalisesTo (field p n b) image = (v.laid, puts.laid.0.2, is_image) in
      let low : from ≤ p = puts.found.1.0 in
      let within : p + n ≤ length b = at_within b p n volume in
      let gap_long : length gap ≡ p - from = omega (arith, ap length is, length-take (p - from) (drop from b), length-drop from b, low, within) in
      let image_long : length image ≡ n =
      omega (arith, image_stays_long (field p n b) image to, length-take n (drop p b), length-drop p b, within) in
      let front_long : length (puts.bytes ++ gap) ≡ p = omega (arith, length-append puts.bytes gap, puts.long, gap_long, low) in
      rw (← laid_long b p n v.laid volume puts.laid.0.2) (record {
        bytes = (puts.bytes ++ gap) ++ image;
        taken = laws.joined (laws.joined puts.taken put) put';
        long = omega (arith, length-append (puts.bytes ++ gap) image, front_long, image_long);
        inside = within;
        found = subst (λ (k : ℕ). FoundFrom (p + k) b (volume_starts vs)) (one_length b p puts.found.0 n puts.found.1.3 volume) puts.found.2;
        laid = puts.laid.1;
        whole = λ rest after. simp append_assoc (puts.whole (gap ++ (image ++ rest)) (renews_more b (volume_starts vs) puts.bytes gap image rest
            from p n low volume is puts.long gap_long front_long image_long to (simp append_assoc at after)));
      })

  -- after the bytes that follow the last volume are put, the renewed image is complete
  pub laid_all : {t u : S} (left : List LocatedVolume) (from : ℕ) (rest : List ℕ) → IsLaidOut b volumes → PutsVolumes takes s t b volumes left from
      → left ≡ [] → rest ≡ drop from b → takes t rest u → (bytes : List ℕ) × NormalisesAll b bytes × takes s bytes u
  laid_all {t} left from rest (short, places, found, (same, all)) puts' none is put =
      let puts = subst (λ (xs : List LocatedVolume). PutsVolumes takes s t b volumes xs from) none puts' in
      let o : List ℕ = puts.bytes ++ rest in
      let walk : RenewsFrom 0 b (volume_starts volumes) o = puts.whole rest (drop_at puts.bytes rest from puts.long ∙ is) in
      let long : length o ≡ length b = omega (arith, length-append puts.bytes rest, ap length is, puts.long, length-drop from b, puts.inside) in (
        o,
        (short, volume_starts volumes, subst (Found b) (sym same) found, renewed_is b (volume_starts volumes) o walk long),
        laws.joined puts.taken put,
      )

-- ---- the renewed image of volumes that are laid out

-- a sink that keeps nothing
abbrev nothing : Unit {0} → List ℕ → Unit {0} → Type 0
nothing s bytes t = Unit {0}

nothing_by : WalkLaws nothing
nothing_by = record { none = λ s. tt; joined = λ p q. tt }

-- the images of the volumes that are left can be put into this sink, so there is a renewed image
all_put : (b : List ℕ) (volumes left : List LocatedVolume) (from : ℕ) → IsLaidOut b volumes → PutsVolumes nothing tt tt b volumes left from
    → (bytes : List ℕ) × NormalisesAll b bytes
all_put b volumes [] from laid puts =
    let whole = laid_all nothing nothing_by tt b volumes [] from (drop from b) laid puts refl refl tt in (whole.0, whole.1)
all_put b volumes (v ∷ vs) from laid puts =
    let image = puts.laid.0.3 in
    all_put b volumes vs (v.start + (head_of v.laid).length) laid (laid_more nothing nothing_by tt b volumes (v ∷ vs) from v vs
    (field from (v.start - from) b) image.0 puts refl refl tt image.1 tt)

-- if the volumes are laid out, the flash image has a renewed image
pub laid_renewed : (b : List ℕ) (volumes : List LocatedVolume) → IsLaidOut b volumes → (bytes : List ℕ) × NormalisesAll b bytes
laid_renewed b volumes laid = all_put b volumes volumes 0 laid (laid_none nothing nothing_by tt b volumes laid)
