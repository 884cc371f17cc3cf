use Rattle.std.proofs.Common.{arith}
use Rattle.fv_crc32.proofs.TableLemmas.{table_at}
use Rattle.fv_crc32.proofs.checksum.entry.Goals as goal

pub returns : goal.returns
returns c = table_at c.args.byte (omega arith)
