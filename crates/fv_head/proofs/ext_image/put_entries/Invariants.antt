use Rattle.std.proofs.Common.{◌≡◌, ◌≤◌, ◌++◌, List, ℕ, drop}
use Rattle.fv_base.specs.Words.{ext_limit}
use Rattle.fv_head.specs.Words.{entries_bytes, entries_len}
use Rattle.fv_head.proofs.ext_image.put_entries.Given as goal

-- the entries so far were put, and the entries from here on complete the bytes of all entries
abbrev pub invariant-loop-entry : goal.invariant-loop-entry
invariant-loop-entry g l =
    (front : List ℕ) × g.S.Sink.takes l.initial.out front l.out
    × (front ++ entries_bytes l.used (drop l.entry-index l.entries) ≡ entries_bytes l.used l.entries)
    × (entries_len (drop l.entry-index l.entries) ≤ ext_limit)
