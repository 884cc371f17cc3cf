use Rattle.std.proofs.Common.{sym, ◌∙◌}
use Rattle.fv_section.proofs.SectionTextLemmas.{text_found, text_none}
use Rattle.fv_section.proofs.texts.ui_text.Goals as goal

pub returns-then-is_text-clause-found : goal.returns-then-is_text-clause-found
returns-then-is_text-clause-found c = text_found c.args.body.now (sym c.is_text.ensures ∙ c.if-is_text.true)

pub returns-else-is_text-clause-none : goal.returns-else-is_text-clause-none
returns-else-is_text-clause-none c = λ text is. text_none c.args.body.now text (sym c.is_text.ensures ∙ c.if-is_text.false) is
