use Rattle.std.proofs.Common.{◌≡◌, map, take}
use Rattle.std.specs.List.{AllWithin}
use Rattle.fv_names.specs.Words.{NamedFile, IsName, names_in, numbered}
use Rattle.fv_names.proofs.name_index.NameIndex.refill.Given as goal

abbrev pub invariant-loop-file : goal.invariant-loop-file
invariant-loop-file g l = record {
  items : l.self.sorted.items ≡ take l.file-index (numbered 0 (names_in (map g.F.Named.named l.files)));
  whole : AllWithin (λ (f : NamedFile). IsName f.name) (map g.F.Named.named l.files) 0 l.file-index;
}
