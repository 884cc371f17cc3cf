use Rattle.std.proofs.Common.{refl}
use Rattle.fv_crc32.specs.Words.{after_bits}
use Rattle.fv_huffman.specs.Words.{of_length, up_to, search}
use Rattle.fv_lzma.specs.Words.{tree, reverse_tree, direct, after_match, packets}
use Rattle.fv_packed.specs.Words.{copied}
use Rattle.fv_tiano.specs.Words.{longer, gathered, block_body, blocks}
use Rattle.fv_open.proofs.worked_sections.contents_faults.Goals as goal

pub returns-clause-damaged : goal.returns-clause-damaged
unfolding after_bits of_length up_to search tree reverse_tree direct after_match packets copied longer gathered block_body blocks
returns-clause-damaged c = refl

pub returns-clause-lengths : goal.returns-clause-lengths
unfolding after_bits of_length up_to search tree reverse_tree direct after_match packets copied longer gathered block_body blocks
returns-clause-lengths c = refl

pub returns-clause-sum : goal.returns-clause-sum
unfolding after_bits of_length up_to search tree reverse_tree direct after_match packets copied longer gathered block_body blocks
returns-clause-sum c = refl

pub returns-clause-stored : goal.returns-clause-stored
unfolding after_bits of_length up_to search tree reverse_tree direct after_match packets copied longer gathered block_body blocks
returns-clause-stored c = refl

pub returns-clause-long_sum : goal.returns-clause-long_sum
unfolding after_bits of_length up_to search tree reverse_tree direct after_match packets copied longer gathered block_body blocks
returns-clause-long_sum c = refl

pub returns-clause-packed : goal.returns-clause-packed
unfolding after_bits of_length up_to search tree reverse_tree direct after_match packets copied longer gathered block_body blocks
returns-clause-packed c = refl
