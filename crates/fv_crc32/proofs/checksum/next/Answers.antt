use Rattle.std.proofs.Common.{◌/◌, ◌∙◌, ap, arith, bit_xor}
use Rattle.fv_crc32.proofs.TableLemmas.{by_table}
use Rattle.fv_crc32.proofs.checksum.next.Goals as goal

pub returns : goal.returns
returns c = ap (λ t. bit_xor t (c.args.register / 256)) c.entry.ensures ∙ by_table c.args.register c.args.byte (omega arith)
