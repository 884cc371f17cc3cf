-- Proves that the bytes of a file with plain data, and of a section that is a leaf, are those that their meaning has.
use Rattle.std.proofs.Common.{◌≡◌, ℕ, List, Some}
use Rattle.fv_base.specs.Words.{depth_limit}
use Rattle.fv_section.specs.Words.{FrameForm}
use Rattle.fv_tree.specs.Words.{FileForm, FileMeaning, File, Plain, Sectioned, MeansFile, MeansSection, SectionMeaning, Section, Leaf, Group, Nested}
use Rattle.fv_tree.specs.Words.{Stream, body_of, content_of, leaf_of, plain_of}

-- the payload of a file whose data are plain bytes is these bytes
pub plain_is : (f : FileForm) (m : FileMeaning) (b : List ℕ) → MeansFile (Stream depth_limit) f m → plain_of (content_of m) ≡ Some b
    → f.payload ≡ b
plain_is f (File name kind attributes (Plain c)) b (p, q, r, (h, same)) e = cc
plain_is f (File name kind attributes (Sectioned ss tail)) b means e = cc

-- the body of a frame whose section holds plain bytes is these bytes
pub leaf_is : (f : FrameForm) (s : SectionMeaning) (b : List ℕ) → MeansSection depth_limit f s → leaf_of (body_of s) ≡ Some b → f.body ≡ b
leaf_is f (Section kind extended (Leaf c)) b (p, q, (g, o, same)) e = cc
leaf_is f (Section kind extended (Group ss tail)) b means e = cc
leaf_is f (Section kind extended (Nested m)) b means e = cc
