use Rattle.std.proofs.Common.{◌≡◌, ◌≤◌, ℕ, List, length, false}
use Rattle.std.specs.Io.KnownBytes.{Consumes}
use Rattle.fv_base.specs.Words.{inner_of, has_erred}
use Rattle.fv_base.proofs.input.read_to_end.Given as goal

-- the collector holds the bytes that the reader has given so far; if it lacks memory for n bytes now, it lacked it at
-- the start; and without an error, each read gave at least one byte
abbrev pub invariant-loop-turn : goal.invariant-loop-turn
invariant-loop-turn g l =
    (bytes : List ℕ)
    × Consumes (g.R.Read.remaining (inner_of l.initial.reader)) (g.R.Read.remaining (inner_of l.reader)) bytes
    × g.C.Collector.holds l.collector bytes
    × (l.count ≡ length bytes)
    × (length bytes ≤ l.limit)
    × (has_erred l.reader ≡ false → l._turn ≤ length bytes)
    × ((n : ℕ) → g.C.Collector.lacks l.collector n → g.C.Collector.lacks l.initial.collector n)
