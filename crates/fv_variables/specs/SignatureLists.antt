-- Signature lists as they are written (UEFI specification 2.10, section 32.4.1), and the signatures among rows.
use Rattle.std.specs.Prelude.{◌≡◌, ℕ, ◌+◌, ◌-◌, ◌≤◌, List, [], ◌∷◌, ◌++◌, length, drop, None}
use Rattle.std.specs.List.{AllByRecursion}
use Rattle.fv_base.specs.Words.{field, guid_of, le_at}
use Rattle.fv_base.specs.declared.guid.Guid.{Guid}
use Rattle.fv_variables.specs.declared.row.Part.{Part}
use Rattle.fv_variables.specs.declared.row.Part.TheVariants as parts
use Rattle.fv_variables.specs.declared.row.Row.{Row}

-- a signature: its owner, and its data
pub record SignatureForm : Type 0 where
  pub owner : Guid
  pub content : List ℕ

-- b is these signatures, one after another, each of `size` bytes: SignatureOwner, and then SignatureData
abbrev pub JoinsSignatures : ℕ → List SignatureForm → List ℕ → Type 0
JoinsSignatures size [] b = b ≡ []
JoinsSignatures size (s ∷ ss) b =
    (c : List ℕ) × (rest : List ℕ) × (b ≡ c ++ rest) × (length c ≡ size)
    × (s ≡ record { owner = guid_of (field 0 16 c); content = drop 16 c }) × JoinsSignatures size ss rest

-- b is these lists, one after another, each with its signatures: the header with SignatureHeader, and then signatures of
-- SignatureSize bytes up to SignatureListSize
abbrev pub JoinsLists : List (List SignatureForm) → List ℕ → Type 0
JoinsLists [] b = b ≡ []
JoinsLists (ss ∷ lists) b =
    (head : List ℕ) × (body : List ℕ) × (rest : List ℕ) × (b ≡ head ++ (body ++ rest)) × (length head ≡ 28 + le_at 20 4 head)
    × (le_at 16 4 head ≡ length head + length body) × (16 ≤ le_at 24 4 head) × JoinsSignatures (le_at 24 4 head) ss body
    × JoinsLists lists rest

-- the signatures of these lists, one list after another
abbrev pub all_signatures : List (List SignatureForm) → List SignatureForm
all_signatures [] = []
all_signatures (ss ∷ lists) = ss ++ all_signatures lists

-- the signatures among these rows of the bytes b
abbrev pub signatures_with : Part → List ℕ → Row → List SignatureForm → List SignatureForm
signatures_with (parts.Signature owner) b row ss =
    record { owner = owner; content = field (row.offset + 16) (row.length - 16) b } ∷ ss
signatures_with _ b row ss = ss

abbrev pub signatures_of : List ℕ → List Row → List SignatureForm
signatures_of b [] = []
signatures_of b (row ∷ rows) = signatures_with row.part b row (signatures_of b rows)

-- these rows of the bytes b have no findings, and their signatures are exactly these
abbrev pub AreSignatures : List ℕ → List Row → List SignatureForm → Type 0
AreSignatures b rows ss = (signatures_of b rows ≡ ss) × AllByRecursion (λ row. row.finding ≡ None) rows
