use Rattle.std.proofs.Common.{◌≡◌, ◌++◌, List, drop, take}
use Rattle.fv_c.specs.ReportedHeaders.{AreHeaders}
use Rattle.fv_c.specs.declared.header.FvHeader.{FvHeader}
use Rattle.fv_c.proofs.scan.put_each_header.Given as goal

-- the headers so far are at the start of the buffer, which is unchanged after them
abbrev pub invariant-loop-i : goal.invariant-loop-i
invariant-loop-i l = (headers : List FvHeader) → AreHeaders l.image headers → l.rows ≡ take l.i headers ++ drop l.i l.initial.rows
