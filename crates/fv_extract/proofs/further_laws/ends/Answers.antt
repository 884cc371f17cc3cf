use Rattle.fv_budget.specs.Words.{nesting_limit}
use Rattle.fv_rows.specs.Words.{tree_rows}
use Rattle.fv_extract.specs.Words.{PackedSearch, at_start}
use Rattle.fv_extract.proofs.SearchLemmas.{found_packed, found_rows, lacking_rows}
use Rattle.fv_extract.proofs.further_laws.ends.Goals as goal

pub returns-clause-found : goal.returns-clause-found
returns-clause-found c name m v s search =
    found_rows name (PackedSearch name nesting_limit) (found_packed name nesting_limit) at_start (tree_rows m) v s search

pub returns-clause-absent : goal.returns-clause-absent
returns-clause-absent c name m s search = lacking_rows name (PackedSearch name nesting_limit) at_start (tree_rows m) s search
