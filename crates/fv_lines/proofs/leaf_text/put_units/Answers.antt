use Rattle.std.proofs.Common.{◌≡◌, ℕ, ◌≤◌, [], ◌∷◌, ◌++◌, List, length, drop, refl, arith, ◌-◌, append_assoc, length-drop, take_all}
use Rattle.fv_base.proofs.Laws.{flat_map, words_of, le_at}
use Rattle.fv_lines.specs.Words.{unit_text}
use Rattle.fv_lines.proofs.leaf_text.put_units.Goals as goal

-- the text of the first unit, followed by the text of the units after it, is the text of all units
units_next : (b : List ℕ) → 2 ≤ length b
    → unit_text (le_at 0 2 b) ++ flat_map unit_text (words_of (drop 2 b)) ≡ flat_map unit_text (words_of b)
units_next [] l = absurd (omega (arith, l))
units_next (x ∷ []) l = absurd (omega (arith, l))
units_next (x ∷ y ∷ bs) l = refl

pub loop-rest-preserved : goal.loop-rest-preserved
loop-rest-preserved g c =
    let rest = c.loop-rest.rest.now in
    let cut = take_all (length rest - 2) (drop 2 rest) (omega (arith, length-drop 2 rest)) in (
      _,
      g.S.Sink.laws.joined c.loop-rest.invariant.1 c.put_unit.ensures,
      rw (append_assoc, cut, c.u16_at.ensures, units_next rest c.loop-rest-test.true) c.loop-rest.invariant.2,
    )
