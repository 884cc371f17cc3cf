-- The result of a search through two meanings.
use Rattle.std.specs.Prelude.{◌≡◌, Result, Ok, Err, reverse, true, Option, Some, None}
use Rattle.fv_base.specs.Words.{out_of_memory}
use Rattle.fv_base.specs.declared.fault.Fault.{Fault}
use Rattle.fv_tree.specs.Difference.{Differs, differ_in, has_steps}
use Rattle.fv_tree.specs.declared.difference.DifferenceKind.{DifferenceKind}

-- a difference of this kind, if there is one
abbrev pub in_kind : Option DifferenceKind → Differs
in_kind None = None
in_kind (Some word) = differ_in word

-- the same difference, with its steps in reverse order
abbrev pub reversed_steps : Differs → Differs
reversed_steps None = None
reversed_steps (Some d) = Some (reverse d.0, d.1)

-- the result of a search: where the two first differ, with the steps from the innermost out; memory runs out only if
-- there are steps
abbrev pub ReturnsDifference : Result Differs Fault → Differs → Type 0
ReturnsDifference (Ok o) d = reversed_steps o ≡ d
ReturnsDifference (Err f) d = (f ≡ out_of_memory) × (has_steps d ≡ true)
