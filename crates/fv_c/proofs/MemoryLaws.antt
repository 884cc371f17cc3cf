-- Proves that a volume begins with a header (`header_of`). The clauses on memory need this law: if memory runs out
-- after a volume was read, the bytes begin with a volume header.
use Rattle.std.proofs.Common.{ℕ, List}
use Rattle.fv_tree.specs.Words.{Accepted, Meaning, head_of}
use Rattle.fv_c.specs.Reports.{BeginsWithHeader}

-- a volume begins with its header
pub header_of : (b : List ℕ) (m : Meaning) → Accepted b m → BeginsWithHeader b
header_of b m accepted = (head_of m, accepted.1.extent, accepted.1.begins)
