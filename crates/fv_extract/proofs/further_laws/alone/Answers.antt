use Rattle.std.proofs.Common.{◌≡◌, ◌↔◌, drop}
use Rattle.fv_base.proofs.Laws.{AllByRecursion}
use Rattle.fv_base.specs.declared.guid.Guid.{Guid}
use Rattle.fv_rows.specs.Words.{tree_rows}
use Rattle.fv_tree.specs.Words.{Meaning, Volume, file_named, files_of}
use Rattle.fv_extract.specs.Words.{HasNoVolume, SearchEnd, VolumeSearch, at_start, end_in}
use Rattle.fv_extract.proofs.SearchLemmas.{alone_end, alone_search}
use Rattle.fv_extract.proofs.further_laws.alone.Goals as goal

alone_law : (name : Guid) (m : Meaning) (end : SearchEnd) → AllByRecursion (λ r. HasNoVolume r.node) (drop 1 (tree_rows m))
    → VolumeSearch name m end ↔ (end ≡ end_in (file_named name (files_of m)) m at_start)
alone_law name (Volume h files) end none = (
  λ search. alone_end name _ at_start (Volume h files) _ _ end none search,
  λ is. rw is (alone_search name _ at_start (Volume h files) _ (file_named name (files_of (Volume h files))) none),
)

pub returns : goal.returns
returns c name m end none = alone_law name m end none
