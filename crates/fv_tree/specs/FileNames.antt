-- The names of files (PI specification, volume 3, section 3.2.3.1, Name).
use Rattle.std.specs.Prelude.{Bool, List, map, Option}
use Rattle.std.specs.List.{find}
use Rattle.std.specs.Str.{bytes_eq}
use Rattle.fv_base.specs.Words.{bytes_of}
use Rattle.fv_base.specs.declared.guid.Guid.{Guid}
use Rattle.fv_names.specs.Words.{IsNameOrder, numbers_of}
use Rattle.fv_names.specs.declared.name_order.NameOrder.{NameOrder}
use Rattle.fv_tree.specs.Meaning.{FileMeaning, file_name_of}

-- whether a file has this name
abbrev pub is_named : Guid → FileMeaning → Bool
is_named name f = bytes_eq (bytes_of name) (bytes_of (file_name_of f))

-- the first file with this name, if there is one
abbrev pub file_named : Guid → List FileMeaning → Option FileMeaning
file_named name fs = find (is_named name) fs

-- `order` is the order of the names of these files
abbrev pub HasOrder : NameOrder → List FileMeaning → Type 0
HasOrder order fs = IsNameOrder (map file_name_of fs) (numbers_of order)
