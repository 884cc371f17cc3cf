use Rattle.std.proofs.Common.{refl}
use Rattle.fv_crc32.specs.Words.{after_bits}
use Rattle.fv_huffman.specs.Words.{of_length, up_to, search}
use Rattle.fv_lzma.specs.Words.{tree, reverse_tree, direct, after_match, packets}
use Rattle.fv_packed.specs.Words.{copied}
use Rattle.fv_tiano.specs.Words.{longer, gathered, block_body, blocks}
use Rattle.fv_open.proofs.worked_sections.guided_sections.Goals as goal

pub returns-clause-lzma : goal.returns-clause-lzma
unfolding after_bits of_length up_to search tree reverse_tree direct after_match packets copied longer gathered block_body blocks
returns-clause-lzma c = refl

pub returns-clause-hp : goal.returns-clause-hp
unfolding after_bits of_length up_to search tree reverse_tree direct after_match packets copied longer gathered block_body blocks
returns-clause-hp c = refl

pub returns-clause-x86 : goal.returns-clause-x86
unfolding after_bits of_length up_to search tree reverse_tree direct after_match packets copied longer gathered block_body blocks
returns-clause-x86 c = refl

pub returns-clause-tiano : goal.returns-clause-tiano
unfolding after_bits of_length up_to search tree reverse_tree direct after_match packets copied longer gathered block_body blocks
returns-clause-tiano c = refl

pub returns-clause-crc32 : goal.returns-clause-crc32
unfolding after_bits of_length up_to search tree reverse_tree direct after_match packets copied longer gathered block_body blocks
returns-clause-crc32 c = refl

pub returns-clause-rsa : goal.returns-clause-rsa
unfolding after_bits of_length up_to search tree reverse_tree direct after_match packets copied longer gathered block_body blocks
returns-clause-rsa c = refl

pub returns-clause-signed : goal.returns-clause-signed
unfolding after_bits of_length up_to search tree reverse_tree direct after_match packets copied longer gathered block_body blocks
returns-clause-signed c = refl

pub returns-clause-plain : goal.returns-clause-plain
unfolding after_bits of_length up_to search tree reverse_tree direct after_match packets copied longer gathered block_body blocks
returns-clause-plain c = refl
