use Rattle.std.proofs.Common.{◌≡◌, ◌<◌, ◌≤◌, ℕ, length, map, take, get_or, true}
use Rattle.std.specs.List.{list_any}
use Rattle.fv_names.specs.Words.{NamedFile, is_twin, Entry}
use Rattle.fv_names.specs.inner.NameOrders.{IsTwinAt}
use Rattle.fv_names.proofs.name_index.NameIndex.first_twin.Given as goal

abbrev pub invariant-loop-place : goal.invariant-loop-place
invariant-loop-place g l = record {
  most : l.first ≤ length l.files;
  least : (d : NamedFile) (e : Entry) (r : ℕ) → 0 < r → r < l.place → IsTwinAt (map g.F.Named.named l.files) d l.self.sorted.items e r
      → l.first ≤ (get_or l.self.sorted.items r e).1;
  has : l.first < length l.files → (d : NamedFile)
      → list_any (is_twin (get_or (map g.F.Named.named l.files) l.first d)) (take l.first (map g.F.Named.named l.files)) ≡ true;
}
