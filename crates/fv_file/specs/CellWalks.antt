-- A walk over the cells of a volume's body (PI specification, volume 3, sections 3.2.2 and 3.2.3).
use Rattle.std.specs.Prelude.{◌≡◌, ℕ, ◌+◌, ◌<◌, List, ◌++◌, length}
use Rattle.fv_base.specs.Words.{AllAre, IsFirstFault, erased_byte}
use Rattle.fv_base.specs.declared.fault.Fault.{Fault}
use Rattle.fv_base.specs.declared.flash.FileSystem.{FileSystem}
use Rattle.fv_base.specs.declared.flash.Polarity.{Polarity}
use Rattle.fv_file.specs.Cells.{CellForm, Tiles}
use Rattle.fv_file.specs.FileChecks.{cell_checks, NoneFree}

-- the part of a volume's body that a walk has not passed: its file system, its erase polarity, its offset and its bytes
pub record CellsLeft : Type 0 where
  pub system : FileSystem
  pub polarity : Polarity
  pub at : ℕ
  pub rest : List ℕ

-- the part with these bytes, at this offset
abbrev pub left_at : FileSystem → Polarity → ℕ → List ℕ → CellsLeft
left_at s p offset bytes = record { system = s; polarity = p; at = offset; rest = bytes }

-- these cells tile the part
abbrev pub TileLeft : List CellForm → CellsLeft → Type 0
TileLeft cs left = Tiles left.system left.polarity left.at cs left.rest

-- a walk passed these cells, and then this part was left; only the last cell may be free, and then no bytes are left
pub record Walked (start : CellsLeft) (cs : List CellForm) (left : CellsLeft) : Type 0 where
  pub passed : List ℕ
  pub text : start.rest ≡ passed ++ left.rest
  pub tiled : Tiles start.system start.polarity start.at cs passed
  pub none_free : 0 < length left.rest → NoneFree cs
  pub place : left.at ≡ start.at + length passed
  pub system : left.system ≡ start.system
  pub polarity : left.polarity ≡ start.polarity

-- not all bytes of the part are erased, and the fault is the fault of the first check of the part's first cell that
-- does not hold
abbrev pub IsNextFault : CellsLeft → Fault → Type 0
IsNextFault left f =
    (AllAre (erased_byte left.polarity) left.rest → ⊥)
    × IsFirstFault (cell_checks left.system left.polarity left.at left.rest) f
