-- What the view of a file keeps besides the name (PI specification, volume 3, sections 3.2.3 and 3.2.5).
use Rattle.std.specs.Prelude.{ℕ, List, []}
use Rattle.fv_tree.specs.Meaning.{Meaning}
use Rattle.fv_tree.specs.declared.view.FileParts.{FileParts}
use Rattle.fv_tree.specs.declared.view.FileParts.TheVariants as kept
use Rattle.fv_tree.specs.declared.view.FileTraits.{FileTraits}

-- the numbers that a `FileParts` holds
abbrev pub traits_of : FileParts → FileTraits
traits_of (kept.Single traits _) = traits
traits_of (kept.Nesting traits _) = traits

-- the bytes of the data
abbrev pub data_of : FileParts → List ℕ
data_of (kept.Single _ payload) = payload.now
data_of (kept.Nesting _ nested) = nested.value.payload.now

-- the meanings of the volumes in the data, in order
abbrev pub nested_list : FileParts → List Meaning
nested_list (kept.Single _ _) = []
nested_list (kept.Nesting _ nested) = nested.value.volumes.items
