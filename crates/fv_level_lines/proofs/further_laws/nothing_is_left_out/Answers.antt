use Rattle.fv_level_lines.proofs.TextLemmas.{closed_in_text, source_in_text}
use Rattle.fv_level_lines.proofs.further_laws.nothing_is_left_out.Goals as goal

pub returns-clause-sources : goal.returns-clause-sources
returns-clause-sources c = source_in_text

pub returns-clause-closed : goal.returns-clause-closed
returns-clause-closed c = closed_in_text
