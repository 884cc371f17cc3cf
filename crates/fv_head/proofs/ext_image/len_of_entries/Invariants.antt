use Rattle.std.proofs.Common.{◌≡◌, ◌+◌, drop}
use Rattle.fv_head.specs.Words.{entries_len}
use Rattle.fv_head.proofs.ext_image.len_of_entries.Given as goal

-- the length so far plus the length of the entries from here on is the length of all entries
abbrev pub invariant-loop-entry : goal.invariant-loop-entry
invariant-loop-entry l = l.len + entries_len (drop l.entry-index l.entries) ≡ entries_len l.entries
