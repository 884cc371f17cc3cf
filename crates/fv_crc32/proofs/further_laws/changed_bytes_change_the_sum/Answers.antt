use Rattle.fv_crc32.proofs.ChangeLemmas.{changed_byte}
use Rattle.fv_crc32.proofs.further_laws.changed_bytes_change_the_sum.Goals as goal

pub returns : goal.returns
returns c = changed_byte
