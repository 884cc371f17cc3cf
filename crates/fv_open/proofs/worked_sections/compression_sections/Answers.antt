use Rattle.std.proofs.Common.{refl}
use Rattle.fv_crc32.specs.Words.{after_bits}
use Rattle.fv_huffman.specs.Words.{of_length, up_to, search}
use Rattle.fv_lzma.specs.Words.{tree, reverse_tree, direct, after_match, packets}
use Rattle.fv_packed.specs.Words.{copied}
use Rattle.fv_tiano.specs.Words.{longer, gathered, block_body, blocks}
use Rattle.fv_open.proofs.worked_sections.compression_sections.Goals as goal

pub returns-clause-stored : goal.returns-clause-stored
unfolding after_bits of_length up_to search tree reverse_tree direct after_match packets copied longer gathered block_body blocks
returns-clause-stored c = refl

pub returns-clause-uefi : goal.returns-clause-uefi
unfolding after_bits of_length up_to search tree reverse_tree direct after_match packets copied longer gathered block_body blocks
returns-clause-uefi c = refl

pub returns-clause-tiano : goal.returns-clause-tiano
unfolding after_bits of_length up_to search tree reverse_tree direct after_match packets copied longer gathered block_body blocks
returns-clause-tiano c = refl

pub returns-clause-customized : goal.returns-clause-customized
unfolding after_bits of_length up_to search tree reverse_tree direct after_match packets copied longer gathered block_body blocks
returns-clause-customized c = refl

pub returns-clause-after_four : goal.returns-clause-after_four
unfolding after_bits of_length up_to search tree reverse_tree direct after_match packets copied longer gathered block_body blocks
returns-clause-after_four c = refl

pub returns-clause-x86 : goal.returns-clause-x86
unfolding after_bits of_length up_to search tree reverse_tree direct after_match packets copied longer gathered block_body blocks
returns-clause-x86 c = refl
