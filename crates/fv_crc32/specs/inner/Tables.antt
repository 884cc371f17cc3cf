-- What the table of the code is.
use Rattle.std.specs.Prelude.{ℕ, zero, suc, Bool, true, ◌&&◌, nat_eq, List, slice_index}
use Rattle.fv_crc32.specs.Crc32.{after_bits}

-- whether each of the first n numbers of the table is the register after 8 bits
abbrev pub is_table : List ℕ → ℕ → Bool
is_table table zero = true
is_table table (suc n) = nat_eq (slice_index table n) (after_bits 8 n) && is_table table n
