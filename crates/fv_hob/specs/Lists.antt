-- Lists of hand-off blocks (PI specification, volume 3, section 5), and the volumes that they describe.
use Rattle.std.specs.Prelude.{◌≡◌, ◌≢◌, ℕ, ⊤, List, [], ◌∷◌, ◌++◌, Option, None, Some}
use Rattle.std.specs.List.{AllByRecursion, filter_map}
use Rattle.fv_hob.specs.Hobs.{HobForm, IsHob, hob_type}
use Rattle.fv_hob.specs.declared.hob.HobKind.{HobKind}
use Rattle.fv_hob.specs.declared.hob.HobKind.TheVariants as kinds
use Rattle.fv_hob.specs.declared.span.Span.{Span}

-- b is the bytes of these blocks, one block after another
abbrev pub JoinsHobs : List HobForm → List ℕ → Type 0
JoinsHobs [] b = b ≡ []
JoinsHobs (h ∷ hs) b = (c : List ℕ) × (rest : List ℕ) × (b ≡ c ++ rest) × IsHob h c × JoinsHobs hs rest

-- h is an end block (EFI_HOB_TYPE_END_OF_HOB_LIST)
abbrev pub IsEndHob : HobForm → Type 0
IsEndHob h = hob_type h.kind ≡ 0xffff

-- h is not an end block (EFI_HOB_TYPE_END_OF_HOB_LIST)
abbrev pub IsNotEndHob : HobForm → Type 0
IsNotEndHob h = hob_type h.kind ≢ 0xffff

-- there are no blocks, or the first block is a hand-off information table (PHIT)
abbrev pub BeginWithTable : List HobForm → Type 0
BeginWithTable [] = ⊤
BeginWithTable (h ∷ hs) = hob_type h.kind ≡ 0x0001

-- b is the bytes of the list's blocks; the first block is a PHIT, and the last block is the only end block
pub record IsHobList (all : List HobForm) (b : List ℕ) : Type 0 where
  pub before : List HobForm
  pub last : HobForm
  pub ends : all ≡ before ++ (last ∷ [])
  pub joined : JoinsHobs all b
  pub begins : BeginWithTable all
  pub others : AllByRecursion IsNotEndHob before
  pub last_is : IsEndHob last

-- h is not an unused block (EFI_HOB_TYPE_UNUSED)
abbrev pub IsUsedHob : HobForm → Type 0
IsUsedHob h = hob_type h.kind ≢ 0xfffe

-- some bytes are this list; this is true of every `HobList`
abbrev pub IsReadList : List HobForm → Type 0
IsReadList all = (b : List ℕ) × IsHobList all b

-- the base and the length in an FV or FV2 block. Any other block has none, also an FV3 block
abbrev pub span_of : HobKind → Option Span
span_of (kinds.FirmwareVolume base len) = Some (record { base = base; length = len })
span_of (kinds.FirmwareVolume2 base len volume file) = Some (record { base = base; length = len })
span_of _ = None

-- the base and the length in each FV or FV2 block, in order
abbrev pub spans_of : List HobForm → List Span
spans_of hs = filter_map (λ h. span_of h.kind) hs
