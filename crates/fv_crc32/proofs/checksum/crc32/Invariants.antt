use Rattle.std.proofs.Common.{◌≡◌, ◌-◌, ◌^◌, drop}
use Rattle.fv_crc32.specs.Words.{after_bytes}
use Rattle.fv_crc32.proofs.checksum.crc32.Given as goal

-- the bytes that are left lead to the same register
abbrev pub invariant-loop-byte : goal.invariant-loop-byte
invariant-loop-byte l = after_bytes l.register (drop l.byte-index l.bytes) ≡ after_bytes (2 ^ 32 - 1) l.bytes
