-- A volume and its copy without the marks of fixed files, cell by cell; and two volumes that differ in such marks only (PI
-- specification, volume 3, section 3.2.3.1, FFS_ATTRIB_FIXED).
use Rattle.std.specs.Prelude.{◌≡◌, ℕ, ◌-◌, List, take, drop, length}
use Rattle.fv_base.specs.Words.{field}
use Rattle.fv_file.specs.Words.{CellForm, DifferInMarks, TilesUnmarked}
use Rattle.fv_head.specs.declared.extent.Extent.{Extent}

-- the body of the volume of this extent at the start of b
abbrev pub body_in_volume : Extent → List ℕ → List ℕ
body_in_volume e b = field e.first (e.length - e.first) b

-- o is b, in which exactly the valid fixed files of the volume of this extent have lost their marks. The length, the bytes
-- before the first cell and the bytes after the volume are the same. Each cell of o is the same cell of b without its
-- mark, so the bytes of volumes inside files are the same
pub record LosesMarks (e : Extent) (cells : List CellForm) (b o : List ℕ) : Type 0 where
  pub length_is : length o ≡ length b
  pub front : take e.first o ≡ take e.first b
  pub rest : drop e.length o ≡ drop e.length b
  pub parts : TilesUnmarked e.file_system e.polarity e.first cells (body_in_volume e b) (body_in_volume e o)

-- a and b are the same except for marks of valid fixed files of the volume of this extent. The length, the bytes before
-- the first cell and the bytes after the volume are the same, and cells of these lengths differ in marks only
pub record DifferInMarksOnly (e : Extent) (cells : List CellForm) (a b : List ℕ) : Type 0 where
  pub length_is : length a ≡ length b
  pub front : take e.first a ≡ take e.first b
  pub rest : drop e.length a ≡ drop e.length b
  pub parts : DifferInMarks e.polarity cells (body_in_volume e a) (body_in_volume e b)
