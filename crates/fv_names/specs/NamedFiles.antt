-- Files by name and mark: which of them have the same name (PI specification, volume 3, sections 3.2.2 and 3.2.3).
-- VolumeFiles of fv_tree states the same of files as they are stored in their volume.
use Rattle.std.specs.Prelude.{◌≡◌, ◌&&◌, not, Bool, false, List, [], ◌∷◌}
use Rattle.std.specs.Bool.{beq}
use Rattle.std.specs.List.{list_any}
use Rattle.std.specs.Str.{bytes_eq}
use Rattle.fv_base.specs.Words.{bytes_of}
use Rattle.fv_base.specs.declared.guid.Guid.{Guid}

-- the name of a file, and whether the file is marked for update (section 3.2.3.1, EFI_FILE_MARKED_FOR_UPDATE)
pub record NamedFile : Type 0 where
  pub name : Guid
  pub marked : Bool

-- whether two names are equal
abbrev pub is_name : Guid → Guid → Bool
is_name name other = bytes_eq (bytes_of name) (bytes_of other)

-- whether two files have the same name
abbrev pub same_name : NamedFile → NamedFile → Bool
same_name f g = is_name f.name g.name

-- whether two files are twins: they have the same name, and both or neither is marked
abbrev pub is_twin : NamedFile → NamedFile → Bool
is_twin f g = same_name f g && beq f.marked g.marked

-- no two of the files are twins, by this test of two files
abbrev pub NoTwins : {F : Type 0} → (F → F → Bool) → List F → Type 0
NoTwins twin [] = Unit {0}
NoTwins twin (f ∷ fs) = (list_any (twin f) fs ≡ false) × NoTwins twin fs

-- whether f is marked for update and g is its update: a file with the same name that is not marked
abbrev pub replaced_by : NamedFile → NamedFile → Bool
replaced_by f g = same_name f g && (f.marked && not g.marked)
