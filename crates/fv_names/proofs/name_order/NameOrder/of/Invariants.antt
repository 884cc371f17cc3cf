use Rattle.std.proofs.Common.{◌≡◌, take}
use Rattle.fv_names.specs.Words.{entries_of, numbers_in}
use Rattle.fv_names.proofs.name_order.NameOrder.of.Given as goal

abbrev pub invariant-loop-place : goal.invariant-loop-place
invariant-loop-place l = l.numbers.items ≡ take l.place (numbers_in (entries_of l.index))
