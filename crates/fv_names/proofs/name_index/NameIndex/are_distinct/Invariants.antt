use Rattle.std.proofs.Common.{◌<◌, ◌-◌, ℕ, ◌≢◌, get_or}
use Rattle.fv_names.specs.Words.{Entry}
use Rattle.fv_names.proofs.name_index.NameIndex.are_distinct.Given as goal

abbrev pub invariant-loop-next : goal.invariant-loop-next
invariant-loop-next l =
    (e : Entry) (p : ℕ) → 0 < p → p < l.next → (get_or l.self.sorted.items (p - 1) e).0 ≢ (get_or l.self.sorted.items p e).0
