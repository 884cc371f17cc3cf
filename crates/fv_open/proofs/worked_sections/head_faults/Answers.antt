use Rattle.std.proofs.Common.{refl}
use Rattle.fv_crc32.specs.Words.{after_bits}
use Rattle.fv_huffman.specs.Words.{of_length, up_to, search}
use Rattle.fv_lzma.specs.Words.{tree, reverse_tree, direct, after_match, packets}
use Rattle.fv_packed.specs.Words.{copied}
use Rattle.fv_tiano.specs.Words.{longer, gathered, block_body, blocks}
use Rattle.fv_open.proofs.worked_sections.head_faults.Goals as goal

pub returns-clause-no_section : goal.returns-clause-no_section
unfolding after_bits of_length up_to search tree reverse_tree direct after_match packets copied longer gathered block_body blocks
returns-clause-no_section c = refl

pub returns-clause-compression : goal.returns-clause-compression
unfolding after_bits of_length up_to search tree reverse_tree direct after_match packets copied longer gathered block_body blocks
returns-clause-compression c = refl

pub returns-clause-guided : goal.returns-clause-guided
unfolding after_bits of_length up_to search tree reverse_tree direct after_match packets copied longer gathered block_body blocks
returns-clause-guided c = refl

pub returns-clause-before : goal.returns-clause-before
unfolding after_bits of_length up_to search tree reverse_tree direct after_match packets copied longer gathered block_body blocks
returns-clause-before c = refl

pub returns-clause-past : goal.returns-clause-past
unfolding after_bits of_length up_to search tree reverse_tree direct after_match packets copied longer gathered block_body blocks
returns-clause-past c = refl

pub returns-clause-sum : goal.returns-clause-sum
unfolding after_bits of_length up_to search tree reverse_tree direct after_match packets copied longer gathered block_body blocks
returns-clause-sum c = refl

pub returns-clause-kind : goal.returns-clause-kind
unfolding after_bits of_length up_to search tree reverse_tree direct after_match packets copied longer gathered block_body blocks
returns-clause-kind c = refl

pub returns-clause-way : goal.returns-clause-way
unfolding after_bits of_length up_to search tree reverse_tree direct after_match packets copied longer gathered block_body blocks
returns-clause-way c = refl

pub returns-clause-guid : goal.returns-clause-guid
unfolding after_bits of_length up_to search tree reverse_tree direct after_match packets copied longer gathered block_body blocks
returns-clause-guid c = refl
