-- The digests of the parts of a volume or of a stream of sections, as they are reported to C (PI specification, volume
-- 3, sections 3.2.1, 3.2.3 and 3.2.4).
use Rattle.std.specs.Prelude.{◌≡◌, ℕ, List, Option, replicate, unwrap_or}
use Rattle.fv_canon.specs.Words.{NodeDigest}
use Rattle.fv_tree.specs.Words.{Pairwise}
use Rattle.fv_rows.specs.Words.{NodeMeaning, TreeRow}
use Rattle.fv_c.specs.ReadInputs.{HasParts}
use Rattle.fv_c.specs.declared.canonical.FvSha256.{FvSha256}
use Rattle.fv_c.specs.declared.input.Form.{Form}

-- the bytes are the digest of the part, or 32 zero bytes if the part has no digest
abbrev pub IsReportedDigest : NodeMeaning → List ℕ → Type 0
IsReportedDigest node bytes =
    (digest : Option (List ℕ)) × NodeDigest node digest × (bytes ≡ unwrap_or digest (replicate 32 0))

-- the digests of these rows: one for each row, in the order of the rows
abbrev pub AreDigests : List FvSha256 → List TreeRow → Type 0
AreDigests digests rows = Pairwise (λ (d : FvSha256) (r : TreeRow). IsReportedDigest r.node d.bytes) digests rows

-- the input is a volume, or a stream of sections, and these are the digests of its rows
abbrev pub HasDigests : Form → List ℕ → List FvSha256 → Type 0
HasDigests form input digests = (rows : List TreeRow) × HasParts form input rows × AreDigests digests rows
