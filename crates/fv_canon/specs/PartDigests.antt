-- The digests of the parts of a volume (PI specification, volume 3, sections 3.2.1, 3.2.3 and 3.2.4).
use Rattle.std.specs.Prelude.{◌≡◌, ℕ, List, Option, Some, None}
use Rattle.sha2.specs.Sha256.{sha256}
use Rattle.fv_tree.specs.Words.{Meaning, FileMeaning, BodyMeaning, Leaf, Group, Nested, body_of, content_of}
use Rattle.fv_rows.specs.Words.{NodeMeaning, VolumeNode, FileNode, SectionNode}
use Rattle.fv_canon.specs.Image.{IsImage, IsData}

-- the digest of a volume: the SHA-256 of its canonical image
abbrev pub VolumeDigest : Meaning → Option (List ℕ) → Type 0
VolumeDigest m digest = (image : List ℕ) × IsImage m image × (digest ≡ Some (sha256 image))

-- the digest of a file: the SHA-256 of its data, as they are in the canonical image of its volume
abbrev pub FileDigest : FileMeaning → Option (List ℕ) → Type 0
FileDigest f digest = (bytes : List ℕ) × IsData (content_of f) bytes × (digest ≡ Some (sha256 bytes))

-- the digest of a section: the SHA-256 of its body if the section is a leaf, otherwise None
abbrev pub BodyDigest : BodyMeaning → Option (List ℕ) → Type 0
BodyDigest (Leaf b) digest = digest ≡ Some (sha256 b)
BodyDigest (Group _ _) digest = digest ≡ None
BodyDigest (Nested _) digest = digest ≡ None

-- the digest of a part, or None if the part is a section that contains sections or a volume
abbrev pub NodeDigest : NodeMeaning → Option (List ℕ) → Type 0
NodeDigest (VolumeNode m) digest = VolumeDigest m digest
NodeDigest (FileNode f) digest = FileDigest f digest
NodeDigest (SectionNode s) digest = BodyDigest (body_of s) digest
