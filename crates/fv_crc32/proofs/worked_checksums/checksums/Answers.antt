use Rattle.std.proofs.Common.{refl}
use Rattle.fv_crc32.specs.Words.{after_bits}
use Rattle.fv_crc32.proofs.worked_checksums.checksums.Goals as goal

pub returns-clause-zero : goal.returns-clause-zero
unfolding after_bits
returns-clause-zero c = refl

pub returns-clause-digits : goal.returns-clause-digits
unfolding after_bits
returns-clause-digits c = refl
