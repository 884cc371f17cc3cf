-- The results of checking each volume of a flash image. The steps:
-- 1. An input has at most one first fault (`one_first`), so bytes have at most one outcome (`one_outcome`), and an
--    image has at most one list of checks (`checks_one`).
-- 2. If a volume is not read, either it is rejected or memory ran out (`ran_out_only`, `is_rejected`).
-- 3. All volumes are canonical exactly if `normalise --all` does not change the image (`canonical_images_stay`).
use Rattle.std.proofs.Common.{◌≡◌, ◌≢◌, ◌↔◌, ◌⊎◌, ℕ, [], ◌∷◌, List, map, refl, sym, ap, ◌∙◌, subst, arith, inl, inr, ⊎_elim}
use Rattle.fv_base.proofs.Laws.{common_steps, AllByRecursion, out_of_memory, depth_limit, field, first_only, First}
use Rattle.fv_base.specs.declared.fault.Fault.{Fault}
use Rattle.fv_flash.specs.Words.{VolumeAt}
use Rattle.fv_flash.proofs.Laws.{one_found, one_length}
use Rattle.fv_head.proofs.Laws.{one_front}
use Rattle.fv_tree.specs.Words.{moved_fault, BytesFollowVolume, IsFirstOfInput, IsFirstOfVolume, NotRead, head_of, length_of, outermost}
use Rattle.fv_tree.proofs.Laws.{fault_refuses, first_once, front_of, one_meaning}
use Rattle.fv_canon.specs.Words.{AreCanonical, AreChecked, CanonicalImagesStay, ChecksImage, HasOutcome, IsChecked, IsNormalisedAt, NormalisesTo}
use Rattle.fv_canon.proofs.RejectedInputLaws.{first_reads}
use Rattle.fv_canon.specs.declared.image_check.VolumeCheck.{VolumeCheck}
use Rattle.fv_canon.specs.declared.image_check.VolumeOutcome.{VolumeOutcome}
use Rattle.fv_canon.specs.declared.image_check.VolumeOutcome.TheVariants.{Canonical, NotCanonical, Rejected}
use Rattle.fv_base.specs.declared.fault.FaultKind.TheVariants as kinds

-- ---- 1. one outcome

-- bytes with a first fault do not begin with a volume
first_or_on : (b : List ℕ) (f g : Fault) → IsFirstOfVolume b f → BytesFollowVolume b g → ⊥
first_or_on b f g first (m, d, less, is) = fault_refuses First depth_limit (length_of m) f b outermost m (omega (arith, less)) first d.1

-- bytes that go on after a volume have at most one fault at the end of the volume
one_end : (b : List ℕ) (f g : Fault) → BytesFollowVolume b f → BytesFollowVolume b g → f ≡ g
one_end b f g (m, d, less, is) (k, d', less', is') =
    let front = front_of depth_limit (length_of m) b m (omega (arith, less)) d.1 in
    let front' = front_of depth_limit (length_of k) b k (omega (arith, less')) d'.1 in
    let same = one_front b (head_of m) (head_of k) d.1.extent d'.1.extent front.0 front'.0 in cc

-- an input has at most one first fault
one_first : (b : List ℕ) (f g : Fault) → IsFirstOfInput b f → IsFirstOfInput b g → f ≡ g
one_first b f g (inl first) (inl other) = first_once depth_limit f g b outermost first other
one_first b f g (inl first) (inr on) = absurd (first_or_on b f g first on)
one_first b f g (inr on) (inl other) = absurd (first_or_on b g f other on)
one_first b f g (inr on) (inr on') = one_end b f g on on'

-- bytes have at most one outcome
one_outcome : (at : ℕ) (b : List ℕ) (x y : VolumeOutcome) → HasOutcome at b x → HasOutcome at b y → x ≡ y
one_outcome at b Canonical Canonical has has' = refl
one_outcome at b Canonical NotCanonical (m, a, is) (k, c, none) = absurd (none (rw (one_meaning depth_limit depth_limit b m k a.1 c.1) at is))
one_outcome at b NotCanonical Canonical (k, c, none) (m, a, is) = absurd (none (rw (one_meaning depth_limit depth_limit b m k a.1 c.1) at is))
one_outcome at b NotCanonical NotCanonical has has' = refl
one_outcome at b (Rejected f) (Rejected g) (own, bad, e) (own', bad', e') =
    ap Rejected (e ∙ (ap (λ (o : Fault). moved_fault at o.place.depth o) (one_first b own own' bad.first bad'.first) ∙ sym e'))
one_outcome at b x (Rejected f) has has' = absurd (has'.1.none has.0 has.1)
one_outcome at b (Rejected f) x has has' = absurd (has.1.none has'.0 has'.1)

-- a volume at a place has at most one check
one_check : (b : List ℕ) (c d : VolumeCheck) → c.offset ≡ d.offset → IsChecked b c → IsChecked b d → c ≡ d
one_check b c d same (v, has) (w, has') =
    let long : c.length ≡ d.length = one_length b d.offset c.length d.length (subst (λ (k : ℕ). VolumeAt b k c.length) same v) w in
    let out : c.outcome ≡ d.outcome = one_outcome d.offset (field d.offset d.length b) c.outcome d.outcome (rw (← same, ← long) has) has' in
    λ i. record { offset = same i; length = long i; outcome = out i }

-- so the volumes at some places have at most one list of checks
each_one : (b offsets : List ℕ) (xs ys : List VolumeCheck) → AreChecked b offsets xs → AreChecked b offsets ys → xs ≡ ys
each_one b [] [] [] has has' = refl
each_one b (o ∷ os) (x ∷ xs) (y ∷ ys) (at, (is, all)) (at', (is', all')) =
    λ i. one_check b x y (cc) is is' i ∷ each_one b os xs ys (cc, all) (cc, all') i
each_one b offsets xs ys (at, all) (at', all') = cc

-- so the volumes of an image have at most one list of checks
pub checks_one : (b : List ℕ) (xs ys : List VolumeCheck) → ChecksImage b xs → ChecksImage b ys → xs ≡ ys
checks_one b xs ys (short, offsets, found, are) (short', offsets', found', are') =
    each_one b offsets xs ys are (rw (one_found b offsets' offsets found' found) at are')

-- ---- 2. a volume that is rejected

-- if reading fails with a fault of the kind OutOfMemory, the fault is `out_of_memory`, so it is at offset 0 and depth 0
pub ran_out_only : (b : List ℕ) (f : Fault) → (f ≡ out_of_memory) ⊎ NotRead b f → f.kind ≡ kinds.OutOfMemory → f ≡ out_of_memory
ran_out_only b f why kind = first_only why (λ bad. first_reads b f kinds.OutOfMemory refl bad.first kind)

-- if reading fails with a fault of another kind, the bytes are not a volume, and the fault is their first fault
pub is_not_read : (b : List ℕ) (f : Fault) → (f ≡ out_of_memory) ⊎ NotRead b f → f.kind ≢ kinds.OutOfMemory → NotRead b f
is_not_read b f why other = ⊎_elim (λ want. absurd (other (ap (λ (g : Fault). g.kind) want))) (λ bad. bad) why

-- the outcome is then Rejected, with the fault moved by the volume's place
pub is_rejected : (at : ℕ) (b : List ℕ) (own f : Fault) → (own ≡ out_of_memory) ⊎ NotRead b own → own.kind ≢ kinds.OutOfMemory
    → (f ≢ out_of_memory → (own ≢ out_of_memory) × (f ≡ moved_fault at own.place.depth own)) → f.kind ≡ own.kind
    → HasOutcome at b (Rejected f)
is_rejected at b own f why other moved kind = grind (arith, common_steps, is_not_read b own why other) steps 400000

-- ---- 3. an image whose volumes are all canonical

-- all checks are Canonical exactly if the image has the canonical image of each volume
each_own : (b : List ℕ) (checks : List VolumeCheck) → AllByRecursion (IsChecked b) checks
    → AreCanonical checks ↔ AllByRecursion (IsNormalisedAt b b) (map (λ c. c.offset) checks)
each_own b [] all = (λ own. tt, λ renewed. tt)
each_own b (c ∷ cs) ((v, has), all) = (
  λ own. ((c.length, v, rw own.0 at has), (each_own b cs all).0 own.1),
  λ ((n, w, to), renewed).
      let own : NormalisesTo (field c.offset c.length b) (field c.offset c.length b) = rw (one_length b c.offset n c.length w v) at to in
      (one_outcome c.offset (field c.offset c.length b) c.outcome Canonical has own, (each_own b cs all).1 renewed),
)

pub canonical_images_stay : CanonicalImagesStay
canonical_images_stay b checks (short, offsets, found, (at, all)) = grind (arith, common_steps, each_own b checks all, one_found)
