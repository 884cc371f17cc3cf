-- A renewed image in which the same volumes are found is its own renewed image.
use Rattle.std.proofs.Common.{◌≡◌, ℕ, [], ◌∷◌, List, length, refl, subst, arith}
use Rattle.fv_base.proofs.Laws.{AllByRecursion, field}
use Rattle.fv_flash.specs.Words.{Found}
use Rattle.fv_flash.proofs.Laws.{one_found}
use Rattle.fv_canon.specs.Words.{IsNormalisedAt, NormalisesAll}
use Rattle.fv_canon.proofs.HeadlineLaws.{image_is_its_own_image}
use Rattle.fv_canon.proofs.SameRenewedLaws.{image_at, volume_there}

-- the canonical image at a place is a volume of its own length there, and its own canonical image
each : (b o ps : List ℕ) → length o ≡ length b → AllByRecursion (IsNormalisedAt b o) ps → AllByRecursion (IsNormalisedAt o o) ps
each b o [] long all = tt
each b o (p ∷ ps) long ((n, v, to), all) =
    ((n, volume_there o p n to.0 (image_at b o p n long v to), image_is_its_own_image (field p n b) (field p n o) to), each b o ps long all)

pub stays : (b o places : List ℕ) → NormalisesAll b o → Found b places → Found o places → NormalisesAll o o
stays b o places (short, found_at, found, r) f g =
    let at = one_found b found_at places found f in (
      omega (arith, short, r.length_is),
      places,
      g,
      record {
        length_is = refl;
        volumes = each b o places r.length_is (subst (λ (ps : List ℕ). AllByRecursion (IsNormalisedAt b o) ps) at r.volumes);
        others = λ k inside none. refl;
      },
    )
