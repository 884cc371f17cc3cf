-- The rows are honest: each row says what is so in the bytes at its offset, and bytes are unread only for the reason
-- that their finding gives (VariableFormat.h and SystemNvDataGuid.h of EDK II; UEFI
-- specification 2.10, section 32.4.1).
use Rattle.std.specs.Prelude.{◌≡◌, ℕ, ◌+◌, ◌-◌, ◌≤◌, ◌<◌, ◌⊎◌, true, false, List, [], ◌∷◌, length, drop, None, Some}
use Rattle.fv_base.specs.Words.{AllAre, field, guid_of, le_at}
use Rattle.fv_variables.specs.declared.format.StoreFormat.{StoreFormat}
use Rattle.fv_variables.specs.declared.row.Finding.{Finding}
use Rattle.fv_variables.specs.declared.row.Finding.TheVariants as findings
use Rattle.fv_variables.specs.declared.row.Part.{Part}
use Rattle.fv_variables.specs.declared.row.Part.TheVariants as parts
use Rattle.fv_variables.specs.declared.row.Row.{Row}
use Rattle.fv_variables.specs.Format.{has_start_id, header_in, header_len, is_unfinished, variable_in, variable_len}
use Rattle.fv_variables.specs.Reading.{header_finding, queue_finding, store_end}
use Rattle.fv_variables.specs.Signatures.{has_list_sizes, list_in}
use Rattle.fv_variables.specs.Signs.{begins_sign, store_guid, working_guid}

-- what a row may lie in, by the last header before it: nothing; a store, with the format of its variables and the offset
-- of its end; or a signature list, with its SignatureSize and the offset of its end
pub data Around : Type 0 where
  Nowhere : Around
  InStore : StoreFormat → ℕ → Around
  InList : ℕ → ℕ → Around

-- the row lies in the store of the last header before it, and the property holds of the format of this store and of the
-- bytes from the row on to the end of the store
abbrev pub LiesIn : Around → List ℕ → Row → (StoreFormat → List ℕ → Type 0) → Type 0
LiesIn (InStore format end) b row holds =
    (row.offset + row.length ≤ end) × holds format (field row.offset (end - row.offset) b)
LiesIn _ b row holds = ⊥

-- the row lies in the signature list of the last header before it, and the property holds of its SignatureSize
abbrev pub LiesInList : Around → Row → (ℕ → Type 0) → Type 0
LiesInList (InList size end) row holds = (row.offset + row.length ≤ end) × holds size
LiesInList _ row holds = ⊥

-- the row ends where its signature list ends
abbrev pub EndsList : Around → Row → Type 0
EndsList (InList size end) row = row.offset + row.length ≡ end
EndsList _ row = ⊥

-- the rest of a store cannot be read for this reason: it does not begin with StartId and is not erased; or it begins
-- with StartId, and has no room for a header, or for the header, the name and the data
abbrev pub StoreBreaks : Finding → StoreFormat → List ℕ → Type 0
StoreBreaks findings.StartId format b = (has_start_id b ≡ false) × (AllAre 0xff b → ⊥)
StoreBreaks findings.VariableSize format b =
    (has_start_id b ≡ true) × (length b < header_len format ⊎ (length b < variable_len (variable_in format b)))
StoreBreaks _ format b = ⊥

-- no store and no working block begins at an offset from `from` on and before `to`
abbrev pub NoSign : List ℕ → ℕ → ℕ → Type 0
NoSign b from to = (k : ℕ) → from ≤ k → k < to → begins_sign (drop k b) ≡ false

-- unread bytes lie outside of stores, are not erased, and no store and no working block begins among them; or no
-- signature list begins with them, and they are all bytes that are left; or they are the rest of a signature list, and
-- have fewer bytes than SignatureSize; or they are the rest of a store that cannot be read
abbrev pub UnreadBreaks : List ℕ → Around → Row → Finding → Type 0
UnreadBreaks b around row findings.NoStore =
    (AllAre 0xff (field row.offset row.length b) → ⊥) × NoSign b row.offset (row.offset + row.length)
UnreadBreaks b around row findings.ListSize =
    (row.offset + row.length ≡ length b) × (has_list_sizes (drop row.offset b) ≡ false)
UnreadBreaks b around row findings.SignatureSize = LiesInList around row (λ size. row.length < size) × EndsList around row
UnreadBreaks b around row finding =
    LiesIn around b row (λ format rest. (row.length ≡ length rest) × StoreBreaks finding format rest)

-- a row of this part says what is so in the bytes b. The bytes from its offset on are r
abbrev pub SaysAs : Part → List ℕ → List ℕ → Around → Row → Type 0
SaysAs (parts.StoreHeader header) b r around row =
    (field 0 16 r ≡ store_guid header.format) × (header ≡ header_in header.format r) × (row.length ≡ 28)
    × (row.finding ≡ header_finding r)
SaysAs (parts.Variable v) b r around row =
    LiesIn around b row (λ format rest. (has_start_id rest ≡ true) × (v ≡ variable_in format rest)
    × (is_unfinished v ≡ false) × (row.length ≡ variable_len v))
SaysAs parts.Unfinished b r around row =
    LiesIn around b row (λ format rest. (has_start_id rest ≡ true) × (is_unfinished (variable_in format rest) ≡ true)
    × (row.length ≡ header_len format))
SaysAs parts.Filler b r around row = LiesIn around b row (λ format rest. row.length < 4)
SaysAs parts.Free b r around row = AllAre 0xff (field row.offset row.length b)
SaysAs parts.WorkingBlock b r around row =
    (field 0 16 r ≡ working_guid) × (row.finding ≡ queue_finding r) × (row.finding ≡ None → row.length ≡ 32 + le_at 24 8 r)
SaysAs (parts.ListHeader list) b r around row =
    (has_list_sizes r ≡ true) × (list ≡ list_in r) × (row.length ≡ 28 + list.header_size)
SaysAs (parts.Signature owner) b r around row =
    LiesInList around row (λ size. (owner ≡ guid_of (field 0 16 r)) × (row.length ≡ size))
SaysAs parts.Unread b r around row = (finding : Finding) × (row.finding ≡ Some finding) × UnreadBreaks b around row finding

-- what the rows after this row lie in
abbrev pub around_after : Part → List ℕ → Around → Row → Around
around_after (parts.StoreHeader header) b around row =
    InStore header.format (row.offset + store_end (drop row.offset b))
around_after (parts.ListHeader list) b around row = InList list.signature_size (row.offset + list.list_size)
around_after _ b around row = around

-- each row says what is so in the bytes b. `around` is what the first of the rows lies in
abbrev pub IsHonest : List ℕ → Around → List Row → Type 0
IsHonest b around [] = Unit {0}
IsHonest b around (row ∷ rows) =
    SaysAs row.part b (drop row.offset b) around row × IsHonest b (around_after row.part b around row) rows
