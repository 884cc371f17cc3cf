-- Whether two stored files have the same name; and the name and the mark of a file that a call has returned, from which
-- the index of names is made.
use Rattle.std.specs.Prelude.{Bool}
use Rattle.fv_names.specs.Words.{NamedFile, same_name}
use Rattle.fv_tree.specs.LocatedFiles.{bare_form}
use Rattle.fv_tree.specs.VolumeFiles.{FileForm, named_form}
use Rattle.fv_tree.specs.declared.volume_files.LocatedFile.{LocatedFile}

-- whether two stored files have the same name (`same_name`)
abbrev pub same_stored_name : FileForm → FileForm → Bool
same_stored_name f g = same_name (named_form f) (named_form g)

-- the name of the file, and whether the file is marked for update (`named_form`)
abbrev pub named_file : LocatedFile → NamedFile
named_file s = named_form (bare_form s)
