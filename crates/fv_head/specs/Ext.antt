-- The extended header of a volume (PI specification, volume 3, section 3.2.1.2, EFI_FIRMWARE_VOLUME_EXT_HEADER).
use Rattle.std.specs.Prelude.{◌≡◌, ◌≤◌, ◌<◌, ◌+◌, ◌==◌, ◌&&◌, ◌⊎◌, ℕ, Bool, if◌then◌else◌, List, [], ◌∷◌, ◌++◌, length}
use Rattle.fv_base.specs.Words.{bytes_of, ext_limit, le, le_at}
use Rattle.fv_base.specs.declared.guid.Guid.{Guid}

-- the meaning of an extended header: the volume's name, the entries (each a type and a payload), and the tail, which is
-- the bytes after the entries
pub record Extension : Type 0 where
  pub name : Guid
  pub entries : List (ℕ × List ℕ)
  pub tail : List ℕ

-- the payload that is kept in place of a used size: four zero bytes
abbrev pub zero_used_size : List ℕ
zero_used_size = 0 ∷ 0 ∷ 0 ∷ 0 ∷ []

-- an entry holds the used size if its type is 3 (EFI_FV_EXT_TYPE_USED_SIZE_TYPE) and its payload has 4 bytes
abbrev pub is_used_size : ℕ → List ℕ → Bool
is_used_size kind payload = (kind == 3) && (length payload == 4)

-- the payload as it is kept: for a used size, whose value is not part of the meaning, four zero bytes; otherwise the
-- payload itself
abbrev pub kept_payload : ℕ → List ℕ → List ℕ
kept_payload kind payload = if is_used_size kind payload then zero_used_size else payload

-- the bytes do not begin with an entry: there are fewer than 4 bytes for its header, or its size is below 4 or goes
-- past the end of the bytes
abbrev pub BeginNoEntry : List ℕ → Type 0
BeginNoEntry b = (length b < 4) ⊎ ((le_at 0 2 b < 4) ⊎ (length b < le_at 0 2 b))

-- the bytes are the entries, one after the other, each a header (size and type) and a payload, and then the tail, which
-- does not begin with an entry. An entry of the list has the payload that is kept (`kept_payload`), so a used size in the
-- bytes may have any value
abbrev pub SplitsEntries : List (ℕ × List ℕ) → List ℕ → List ℕ → Type 0
SplitsEntries [] tail b = (b ≡ tail) × BeginNoEntry b
SplitsEntries (e ∷ es) tail b =
    (head : List ℕ) × (payload : List ℕ) × (rest : List ℕ) × (b ≡ head ++ (payload ++ rest)) × (length head ≡ 4)
    × (le_at 0 2 head ≡ 4 + length payload) × (le_at 2 2 head ≡ e.0) × (e.1 ≡ kept_payload e.0 payload)
    × SplitsEntries es tail rest

-- the bytes are an extended header with this meaning: the name, ExtHeaderSize (the number of these bytes, at most
-- `ext_limit`), the entries and the tail
pub record IsExt (x : Extension) (b : List ℕ) : Type 0 where
  pub head : List ℕ
  pub rest : List ℕ
  pub text : b ≡ bytes_of x.name ++ (head ++ rest)
  pub name_length : length (bytes_of x.name) ≡ 16
  pub head_length : length head ≡ 4
  pub size : le head ≡ length b
  pub most : length b ≤ ext_limit
  pub entries : SplitsEntries x.entries x.tail rest
