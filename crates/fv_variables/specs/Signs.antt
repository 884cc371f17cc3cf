-- The signatures of stores and of working blocks (VariableFormat.h and SystemNvDataGuid.h of EDK II).
use Rattle.std.specs.Prelude.{ℕ, suc, nat_le, Bool, true, false, if◌then◌else◌, List, [], ◌∷◌, length}
use Rattle.std.specs.Str.{bytes_eq}
use Rattle.fv_base.specs.Words.{field}
use Rattle.fv_variables.specs.declared.format.StoreFormat.{StoreFormat}
use Rattle.fv_variables.specs.declared.format.StoreFormat.TheVariants as formats
use Rattle.fv_variables.specs.declared.sign.Sign.{Sign}
use Rattle.fv_variables.specs.declared.sign.Sign.TheVariants as signs

-- the signature of a store of this format: gEfiVariableGuid or gEfiAuthenticatedVariableGuid
abbrev pub store_guid : StoreFormat → List ℕ
store_guid formats.Plain =
    0x16 ∷ 0x36 ∷ 0xcf ∷ 0xdd ∷ 0x75 ∷ 0x32 ∷ 0x64 ∷ 0x41 ∷ 0x98 ∷ 0xb6 ∷ 0xfe ∷ 0x85 ∷ 0x70 ∷ 0x7f ∷ 0xfe ∷ 0x7d ∷ []
store_guid formats.Authenticated =
    0x78 ∷ 0x2c ∷ 0xf3 ∷ 0xaa ∷ 0x7b ∷ 0x94 ∷ 0x9a ∷ 0x43 ∷ 0xa1 ∷ 0x80 ∷ 0x2e ∷ 0x14 ∷ 0x4e ∷ 0xc3 ∷ 0x77 ∷ 0x92 ∷ []

-- the signature of a working block: gEdkiiWorkingBlockSignatureGuid
abbrev pub working_guid : List ℕ
working_guid =
    0x2b ∷ 0x29 ∷ 0x58 ∷ 0x9e ∷ 0x68 ∷ 0x7c ∷ 0x7d ∷ 0x49 ∷ 0xa0 ∷ 0xce ∷ 0x65 ∷ 0x00 ∷ 0xfd ∷ 0x9f ∷ 0x1b ∷ 0x95 ∷ []

-- what this signature begins
abbrev pub sign_of : List ℕ → Sign
sign_of b =
    if bytes_eq b (store_guid formats.Plain) then signs.Store formats.Plain
    else (if bytes_eq b (store_guid formats.Authenticated) then signs.Store formats.Authenticated
    else (if bytes_eq b working_guid then signs.Working else signs.Nothing))

-- what begins with these bytes: there are at least 32, the length of the header of a working block, which is longer than
-- the header of a store, and they begin with a signature
abbrev pub sign_by : List ℕ → Sign
sign_by b = if nat_le 32 (length b) then sign_of (field 0 16 b) else signs.Nothing

-- a store or a working block begins with these bytes
abbrev pub is_sign : Sign → Bool
is_sign signs.Nothing = false
is_sign _ = true

abbrev pub begins_sign : List ℕ → Bool
begins_sign b = is_sign (sign_by b)

-- the number of bytes before the first place at which a store or a working block begins, or the number of all bytes if
-- there is no such place
abbrev pub first_sign : List ℕ → ℕ
first_sign [] = 0
first_sign (x ∷ xs) = if begins_sign (x ∷ xs) then 0 else suc (first_sign xs)
