use Rattle.std.proofs.Common.{inl, refl}
use Rattle.fv_text.proofs.worked_readings.hex_texts.Goals as goal

pub returns-clause-spells : goal.returns-clause-spells
returns-clause-spells c = (0, 10, _, refl, refl, refl, refl)

pub returns-clause-odd : goal.returns-clause-odd
returns-clause-odd c = inl (λ bytes spells. spells, refl)
