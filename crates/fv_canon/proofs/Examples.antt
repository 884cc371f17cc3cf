-- The images of small volumes, byte by byte.
use Rattle.std.proofs.Common.{◌≡◌, [], ◌∷◌, ◌++◌, false, replicate, refl, arith, None, Some}
use Rattle.fv_base.proofs.Laws.{common_steps}
use Rattle.fv_base.specs.declared.flash.Polarity.{Polarity}
use Rattle.fv_file.specs.Words.{header_bytes}
use Rattle.fv_head.specs.Words.{Extension, canonical_head, head_spelled, ext_spelled}
use Rattle.fv_tree.specs.Words.{Volume, NoFiles, MoreFiles, File, Plain, Sectioned, NoSections, MoreSections, Section, Leaf, Nested}
use Rattle.fv_canon.specs.inner.ImageOf.{image_of}
use Rattle.fv_canon.specs.Words.{stored_bytes, pad_bytes, gap_bytes, ext_pad, empty_volume, head, head_bytes, file_header_bytes}
use Rattle.fv_canon.proofs.ReadingSteps.{guid}
use Rattle.fv_canon.proofs.PadLaws.{pads_rule}

-- the image of a volume without files
pub empty_image : image_of (Volume (head 128 None) NoFiles) [] ≡ empty_volume
unfolding canonical_head head_spelled ext_pad
empty_image = refl

-- an image with a gap of 24 bytes before a file of alignment 16
gap_image : image_of (Volume (head 160 None) (MoreFiles (File (guid 0x0a) 1 0 (Plain []))
    (MoreFiles (File (guid 0x0b) 1 8 (Plain (1 ∷ 2 ∷ 3 ∷ 4 ∷ 5 ∷ 6 ∷ 7 ∷ 8 ∷ []))) NoFiles))) (72 ∷ 120 ∷ [])
    ≡ head_bytes (160 ∷ 0 ∷ 0 ∷ 0 ∷ []) 0x8e 0xf5 0 ++ (file_header_bytes 0x0a 0x47 0xaa 1 0 24
    ++ (file_header_bytes 0xff 0x08 0xaa 0xf0 0 24 ++ (file_header_bytes 0x0b 0x27 0xaa 1 8 32 ++ (1 ∷ 2 ∷ 3 ∷ 4 ∷ 5 ∷ 6 ∷ 7 ∷ 8 ∷ replicate 8 0xff))))
unfolding canonical_head head_spelled ext_pad header_bytes stored_bytes pad_bytes gap_bytes
gap_image = refl

-- an image with a file of two sections whose file checksum covers the data
sections_image : image_of (Volume (head 128 None) (MoreFiles (File (guid 0x0a) 2 0x40 (Sectioned (MoreSections
    (Section 0x19 false (Leaf (0x5a ∷ []))) (MoreSections (Section 0x19 false (Leaf (1 ∷ 2 ∷ []))) NoSections)) 0)) NoFiles)) (72 ∷ [])
    ≡ head_bytes (128 ∷ 0 ∷ 0 ∷ 0 ∷ []) 0xce 0xf5 0
    ++ (file_header_bytes 0x0a 0xf8 0x66 2 0x40 38 ++ (5 ∷ 0 ∷ 0 ∷ 0x19 ∷ 0x5a ∷ 0 ∷ 0 ∷ 0 ∷ 6 ∷ 0 ∷ 0 ∷ 0x19 ∷ 1 ∷ 2 ∷ replicate 18 0xff))
unfolding canonical_head head_spelled ext_pad header_bytes stored_bytes pad_bytes gap_bytes
sections_image = refl

-- the image of a volume that contains a volume
nested_image : image_of (Volume (head 256 None) (MoreFiles (File (guid 0x0a) 0x0b 0
    (Sectioned (MoreSections (Section 0x17 false (Nested (Volume (head 128 None) NoFiles))) NoSections) 0)) NoFiles)) (72 ∷ [])
    ≡ head_bytes (0 ∷ 1 ∷ 0 ∷ 0 ∷ []) 0xce 0xf4 0 ++ (file_header_bytes 0x0a 0xb9 0xaa 0x0b 0 156
    ++ ((0x84 ∷ 0 ∷ 0 ∷ 0x17 ∷ []) ++ (empty_volume ++ replicate 28 0xff)))
unfolding canonical_head head_spelled ext_pad header_bytes stored_bytes pad_bytes gap_bytes
nested_image = refl

-- an image with an extended header that has a used-size entry, in its pad
ext_image :
    let ext : Extension = record { name = guid 0x0e; entries = (3, 0 ∷ 0 ∷ 0 ∷ 0 ∷ []) ∷ []; tail = [] } in
    image_of (Volume (head 192 (Some ext)) (MoreFiles (File (guid 0x0a) 1 0 (Plain [])) NoFiles)) (128 ∷ [])
    ≡ head_bytes (192 ∷ 0 ∷ 0 ∷ 0 ∷ []) 0xee 0xf4 0x60
    ++ (file_header_bytes 0xff 0xec 0xaa 0xf0 0 52 ++ (replicate 16 0x0e
    ++ ((0x1c ∷ 0 ∷ 0 ∷ 0 ∷ 8 ∷ 0 ∷ 3 ∷ 0 ∷ 0x98 ∷ 0 ∷ 0 ∷ 0 ∷ replicate 4 0xff) ++ (file_header_bytes 0x0a 0x47 0xaa 1 0 24 ++ replicate 40 0xff))))
unfolding canonical_head head_spelled ext_spelled ext_pad header_bytes stored_bytes pad_bytes gap_bytes
ext_image = refl

-- a gap of 16 MiB is filled with one long pad and one pad of 256 bytes
long_gap : (p : Polarity) → gap_bytes p 16777216 ≡ pad_bytes p 0xffff00 ++ pad_bytes p 256
long_gap p = grind (arith, common_steps, pads_rule)
