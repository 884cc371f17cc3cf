use Rattle.std.proofs.Common.{rules}
use Rattle.fv_section.proofs.SectionImageLemmas.{streams_are_read}
use Rattle.fv_section.proofs.section_head.section_head_bytes.Goals as goal

pub returns-then-extended-clause-streams : goal.returns-then-extended-clause-streams
returns-then-extended-clause-streams c = streams_are_read

pub returns-else-extended-clause-streams : goal.returns-else-extended-clause-streams
returns-else-extended-clause-streams c = streams_are_read

pub returns-then-extended-clause-read : goal.returns-then-extended-clause-read
returns-then-extended-clause-read c = search rules fits 100 steps 300000

pub returns-then-extended-clause-frame : goal.returns-then-extended-clause-frame
returns-then-extended-clause-frame c = search rules fits 100 steps 300000

pub returns-then-extended-clause-bytes : goal.returns-then-extended-clause-bytes
returns-then-extended-clause-bytes c = search rules fits 100 steps 300000
