-- An input that is a volume, without the marks of its fixed files, and why they cannot be taken away (PI specification,
-- volume 3, section 3.2.3.1, FFS_ATTRIB_FIXED).
use Rattle.std.specs.Prelude.{◌≡◌, ◌<◌, ◌⊎◌, ℕ, List, length}
use Rattle.fv_base.specs.Words.{outer_fault}
use Rattle.fv_base.specs.declared.fault.Fault.{Fault}
use Rattle.fv_base.specs.declared.fault.FaultKind.TheVariants as kinds
use Rattle.fv_head.specs.Words.{HeadFields, BeginsVolume}
use Rattle.fv_head.specs.declared.extent.Extent.{Extent}
use Rattle.fv_tree.specs.Unfixing.{IsUnfixed, UnfixStops}

-- the input begins with a volume header, and no bytes follow the volume
abbrev pub EndsWithVolume : List ℕ → Type 0
EndsWithVolume input = (h : HeadFields) × (e : Extent) × BeginsVolume h e input × (e.length ≡ length input)

-- the input begins with a volume header, bytes follow the volume, and the fault is Length at the volume's end
abbrev pub BytesFollowExtent : List ℕ → Fault → Type 0
BytesFollowExtent input fault =
    (h : HeadFields) × (e : Extent) × BeginsVolume h e input × (e.length < length input)
    × (fault ≡ outer_fault kinds.Length e.length)

-- the input is a volume that no bytes follow, and o is this volume with none of its files marked as fixed
abbrev pub UnfixesTo : List ℕ → List ℕ → Type 0
UnfixesTo input o = IsUnfixed input o × EndsWithVolume input

-- the first fault of an input whose marks are to be taken away: a fault of its header or of a cell (`UnfixStops`); or
-- Length, because bytes follow the volume
abbrev pub IsFirstOfMarked : List ℕ → Fault → Type 0
IsFirstOfMarked input fault = UnfixStops input fault ⊎ (((o : List ℕ) × IsUnfixed input o) × BytesFollowExtent input fault)

-- the marks of the input cannot be taken away, and this is the first fault
pub record NotUnfixed (input : List ℕ) (fault : Fault) : Type 0 where
  pub none : (o : List ℕ) → UnfixesTo input o → ⊥
  pub first : IsFirstOfMarked input fault
