use Rattle.std.proofs.Common.{◌≡◌, ◌+◌, drop}
use Rattle.fv_same.specs.Words.{count_before}
use Rattle.fv_same.proofs.reader.count_before.Given as goal

-- the sources so far count, and so do those of the others that come before
abbrev pub invariant-loop-before : goal.invariant-loop-before
invariant-loop-before l = l.before + count_before l.fn.number (drop l.before l.fn.levels.sources) ≡ count_before l.fn.number l.fn.levels.sources
