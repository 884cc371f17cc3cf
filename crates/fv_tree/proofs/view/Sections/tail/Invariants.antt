use Rattle.std.proofs.Common.{◌≡◌, length}
use Rattle.std.specs.List.{AllByRecursion}
use Rattle.fv_tree.specs.Words.{BeginsFramed, starts_of, tail_of}
use Rattle.fv_tree.proofs.view.Sections.tail.Given as goal

-- the bytes that are left are frames and the tail of the stream
abbrev pub invariant-loop-bytes : goal.invariant-loop-bytes
invariant-loop-bytes l = record {
  framed : AllByRecursion BeginsFramed (starts_of l.bytes).0;
  same : l.self.1 ≡ tail_of l.bytes;
}

abbrev pub decreases-loop-bytes : goal.decreases-loop-bytes
decreases-loop-bytes l = length l.bytes
