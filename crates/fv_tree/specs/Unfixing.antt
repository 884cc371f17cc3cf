-- A volume without the marks of its fixed files (PI specification, volume 3, section 3.2.3.1, FFS_ATTRIB_FIXED).
use Rattle.std.specs.Prelude.{◌≡◌, ◌≢◌, ◌⊎◌, ◌-◌, ℕ, List, ◌++◌, take, drop}
use Rattle.fv_base.specs.declared.fault.Fault.{Fault}
use Rattle.fv_base.specs.Words.{IsFirstFault, field}
use Rattle.fv_base.specs.declared.fault.FaultKind.TheVariants as kinds
use Rattle.fv_file.specs.Words.{CellForm, Unmarks, IsFirstCellFault}
use Rattle.fv_head.specs.Words.{HeadFields, BeginsVolume, head_checks}
use Rattle.fv_head.specs.declared.extent.Extent.{Extent}
use Rattle.fv_tree.specs.LocatedFiles.{BeginsTiled}

-- b begins with a volume header, and o is b after the marks of some fixed files of this volume were taken away. `body`
-- is the body of the volume in o. All other bytes are the same, also the bytes of volumes inside
pub record Unfixes (e : Extent) (b o body : List ℕ) : Type 0 where
  pub head : HeadFields
  pub begins : BeginsVolume head e b
  pub places : List ℕ
  pub marks : Unmarks e.file_system e.polarity e.first places (field e.first (e.length - e.first) b) body
  pub text : o ≡ take e.first b ++ (body ++ drop e.length b)

-- o is b after the marks of all fixed files of its volume were taken away: cells tile the body of the volume in o
abbrev pub IsUnfixed : List ℕ → List ℕ → Type 0
IsUnfixed b o =
    (e : Extent) × (body : List ℕ) × Unfixes e b o body × ((cells : List CellForm) × BeginsTiled e cells o)

-- the marks of b cannot be taken away because of the fault f: f is the first fault of the header; or f is not Fixed,
-- and is the first fault of a copy of the body without the marks before f
abbrev pub UnfixStops : List ℕ → Fault → Type 0
UnfixStops b f =
    IsFirstFault (head_checks b) f
    ⊎ ((e : Extent) × (o : List ℕ) × (body : List ℕ) × Unfixes e b o body
    × IsFirstCellFault e.file_system e.polarity e.first body f × (f.kind ≢ kinds.Fixed))
