use Rattle.std.proofs.Common.{◌≡◌, ◌++◌, ℕ, List, length}
use Rattle.fv_base.proofs.Laws.{flat_map, words_of}
use Rattle.fv_lines.specs.Words.{unit_text}
use Rattle.fv_lines.proofs.leaf_text.put_units.Given as goal

-- the text so far, followed by the text of the units that are left, is the text of all units
abbrev pub invariant-loop-rest : goal.invariant-loop-rest
invariant-loop-rest g l =
    (text : List ℕ) × g.S.Sink.takes l.initial.out text l.out
    × (text ++ flat_map unit_text (words_of l.rest) ≡ flat_map unit_text (words_of l.fn.units))

abbrev pub decreases-loop-rest : goal.decreases-loop-rest
decreases-loop-rest g l = length l.rest
