use Rattle.std.proofs.Common.{◌≡◌, ◌↔◌, Some}
use Rattle.fv_base.specs.declared.guid.Guid.{Guid}
use Rattle.fv_tree.specs.Words.{FileMeaning, Meaning, Volume, file_named, files_of}
use Rattle.fv_extract.specs.Words.{InVolume, SearchEnd, VolumeSearch, at_start}
use Rattle.fv_extract.proofs.SearchLemmas.{own_end, own_search}
use Rattle.fv_extract.proofs.further_laws.own_file.Goals as goal

own_law : (name : Guid) (m : Meaning) (f : FileMeaning) (end : SearchEnd) → file_named name (files_of m) ≡ Some f
    → VolumeSearch name m end ↔ (end ≡ InVolume m at_start)
own_law name (Volume h files) f end has = (
  λ search. own_end name _ at_start 0 0 0 (Volume h files) _ f end has search,
  λ is. rw is (own_search name _ at_start 0 0 0 (Volume h files) _ f has),
)

pub returns : goal.returns
returns c name m f end has = own_law name m f end has
