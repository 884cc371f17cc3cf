use Rattle.std.proofs.Common.{◌≡◌, ◌≤◌, ◌-◌, drop, length}
use Rattle.fv_levels.specs.Words.{levels_from, levels_of, levels_with}
use Rattle.fv_levels.proofs.opening.open_all.Given as goal

-- the attempts of the levels that are left complete the attempts of all levels
abbrev pub invariant-loop-level : goal.invariant-loop-level
invariant-loop-level l =
    (l.from ≤ length l.levels.sources)
    × (levels_with l.levels (levels_from (9 - l.level) l.from l.progress (drop l.from l.levels.sources)) ≡ levels_of l.fn.image l.fn.budget)
