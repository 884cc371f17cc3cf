-- The laws of the image that is written for a layout. Every input has an image or is rejected.
use Rattle.std.proofs.Common.{◌≡◌, ◌≢◌, ◌⊎◌, ◌≤◌, ℕ, inl, inr, List, [], length, append-nil, ap, subst, sym, arith, Bool, true, IsTrue}
use Rattle.fv_base.proofs.Laws.{common_steps, IsBytes, depth_limit, first_only, out_of_memory}
use Rattle.fv_base.specs.declared.fault.Fault.{Fault}
use Rattle.fv_base.specs.declared.fault.FaultKind.TheVariants as kinds
use Rattle.fv_base.specs.Words.{volume_limit}
use Rattle.fv_head.proofs.Laws.{front_lies}
use Rattle.fv_tree.specs.Words.{Accepted, IsMeaning, Meaning, head_of, volumes_in}
use Rattle.fv_tree.proofs.Laws.{input_decided}
use Rattle.fv_canon.specs.Words.{IsImage, Fits, BeginsWithStarts, AreAllStarts, MeanSame, NormalisesTo, Rejects, Unfit, WhatFitsHasAnImage}
use Rattle.fv_canon.specs.inner.ImageOf.{image_of}
use Rattle.fv_canon.proofs.FitLaws.{fits_laid, fits_or, not_layout, unfit_is, unfit_none}
use Rattle.fv_canon.proofs.WrittenImageLaws.{streams_made, volume_made}
use Rattle.fv_canon.proofs.HeadlineLaws.{accepted, image_keeps_length_and_meaning, image_is_its_own_image, one_reading}
use Rattle.fv_canon.proofs.InsideImageLaws.{image_fits}
use Rattle.fv_canon.proofs.OneImageLaws.{image_one}
use Rattle.fv_canon.proofs.VolumeImageLaws.{image_denotes}

-- if the starts begin with a layout of a meaning that some bytes have, the bytes that are written for these starts are
-- the image of the meaning
pub image_begun : (m : Meaning) (starts : List ℕ) → IsMeaning m → BeginsWithStarts (volumes_in m) starts → IsImage m (image_of m starts)
image_begun m starts (n, l, b, small, d) begins = volume_made n (streams_made n) m b starts small d begins

-- the bytes that are written for a layout of a meaning that some bytes have are the image of the meaning
pub image_is : (m : Meaning) (starts : List ℕ) → IsMeaning m → AreAllStarts m starts → IsImage m (image_of m starts)
image_is m starts is laid = image_begun m starts is (starts, [], sym (append-nil starts), laid)

-- the image of a meaning that some bytes have is a volume of this meaning
pub image_accepted : (m : Meaning) (image : List ℕ) → IsMeaning m → IsImage m image → Accepted image m
image_accepted m image (n, l, b, small, d) is = let again = image_denotes n m b image small d is in accepted n image m again.1 l again.0

-- the length that a header states is within the limit
pub length_limit : (m : Meaning) → IsMeaning m → (head_of m).length ≤ volume_limit
length_limit m (n, l, b, small, d) = omega (arith, (front_lies b (head_of m) d.extent d.begins).limit, d.begins.length_is)

-- the image of a volume has the volume's meaning and length, and is its own image
pub image_again : (input image : List ℕ) → NormalisesTo input image → MeanSame input image × NormalisesTo image image
image_again input image to = ((image_keeps_length_and_meaning input image to).1, image_is_its_own_image input image to)

pub image_stays_long : (input image : List ℕ) → NormalisesTo input image → length image ≡ length input
image_stays_long input image to = (image_keeps_length_and_meaning input image to).0

-- a volume fits exactly if it has an image
pub what_fits_has_an_image : WhatFitsHasAnImage
what_fits_has_an_image m is = (
  λ (fit : Fits m). let laid = fits_laid m fit in (image_of m laid.0, image_is m laid.0 is laid.1),
  λ has. image_fits m has.0 has.1,
)

-- ---- whether bytes are the image of a volume

-- bytes are the image of a volume that is laid out exactly if they are the bytes that the walk writes
pub image_told : (m : Meaning) (b starts : List ℕ) (t : Bool) → IsMeaning m → AreAllStarts m starts
    → (IsTrue t → b ≡ image_of m starts) × (b ≡ image_of m starts → IsTrue t) → (t ≡ true → IsImage m b) × (IsImage m b → t ≡ true)
image_told m b starts t is laid (there, back) = grind (arith, common_steps, image_is m starts is laid, image_one) steps 400000

-- if the layout of a volume fails, and not because memory ran out, no bytes are the volume's image
pub none_refused : (m : Meaning) (b : List ℕ) (f : Fault) → (f ≡ out_of_memory) ⊎ Unfit m 0 f → f.kind ≢ kinds.OutOfMemory
    → IsImage m b → ⊥
none_refused m b f (inl want) other is = other (ap (λ (g : Fault). g.kind) want)
none_refused m b f (inr unfit) other is = unfit_none m 0 f unfit (image_fits m b is)

-- if the layout fails with a fault of the kind OutOfMemory, the fault is `out_of_memory`, so it is at offset 0 and
-- depth 0
pub want_refused : (m : Meaning) (f : Fault) → (f ≡ out_of_memory) ⊎ Unfit m 0 f → f.kind ≡ kinds.OutOfMemory → f ≡ out_of_memory
want_refused m f why kind = first_only why (λ unfit. not_layout f.kind (unfit_is m 0 f unfit) kind)

-- ---- every input has an image or is rejected, and never both

pub every_input : (input : List ℕ) → IsBytes input → ((image : List ℕ) × NormalisesTo input image) ⊎ ((f : Fault) × Rejects input f)
every_input input small = elim (input_decided input small) [
  | inl read ↦ elim (fits_or read.0) [
    | inl fits ↦
        let made = (what_fits_has_an_image read.0 (depth_limit, omega arith, input, read.1.0, read.1.1)).0 fits in
        inl (made.0, (read.0, read.1, made.1))
    | inr w ↦ inr (w.0, inr (read.0, read.1, w.1))
  ]
  | inr w ↦ inr (w.0, inl w.1)
]

pub never_both : (input image : List ℕ) (f : Fault) → NormalisesTo input image → Rejects input f → ⊥
never_both input image f (m, is, made) (inl bad) = bad.none m is
never_both input image f (m, is, made) (inr (k, is', unfit)) =
    unfit_none k 0 f unfit (subst Fits (one_reading input m k is is') (image_fits m image made))
