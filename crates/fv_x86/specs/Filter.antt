-- The filter of x86 code over all bytes (x86_Convert in Bra86.c of EDK II, decoding, with ip 0 and state 0).
use Rattle.std.specs.Prelude.{ℕ, ◌+◌, if◌then◌else◌, List, [], ◌∷◌}
use Rattle.fv_x86.specs.Instruction.{passed, is_converted, filtered_bytes}

-- The bytes from an offset on. The bytes `waiting` belong to a converted instruction, and take the place of the next
-- bytes. The opcode of a converted instruction does not count for the instructions after it.
abbrev pub filtered : ℕ → ℕ → List ℕ → List ℕ → List ℕ
filtered at opcodes [] [] = []
filtered at opcodes [] (byte ∷ after) =
    byte ∷ (if is_converted opcodes byte after
    then filtered (at + 1) 0 (filtered_bytes at opcodes after) after
    else filtered (at + 1) (passed opcodes byte) [] after)
filtered at opcodes (new ∷ waiting) [] = []
filtered at opcodes (new ∷ waiting) (byte ∷ after) = new ∷ filtered (at + 1) 0 waiting after

-- what the filter makes of bytes: no opcode is before the first
abbrev pub unfiltered : List ℕ → List ℕ
unfiltered bytes = filtered 0 0 [] bytes
