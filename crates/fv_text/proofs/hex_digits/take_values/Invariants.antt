use Rattle.std.proofs.Common.{◌≡◌, length, take, drop, map}
use Rattle.fv_text.specs.inner.HexDecoding.{value_or_16}
use Rattle.fv_text.proofs.HexDigitLemmas.{Judges}
use Rattle.fv_text.proofs.hex_digits.take_values.Given as goal

-- the digits so far are replaced by their values, the greatest of which is known
abbrev pub invariant-loop-i : goal.invariant-loop-i
invariant-loop-i l =
    (length l.digits ≡ length l.initial.digits)
    × (take l.i l.digits ≡ map value_or_16 (take l.i l.initial.digits))
    × (drop l.i l.digits ≡ drop l.i l.initial.digits)
    × Judges l.most (take l.i l.initial.digits)
