use Rattle.std.proofs.Common.{ap, arith, length, List}
use Rattle.fv_levels.specs.Words.{SourceForm}
use Rattle.fv_level_lines.proofs.further_laws.sections_add_up.Goals as goal

pub returns : goal.returns
returns c = λ image s levels attempts h.
    omega (arith, c.no_section_is_missing.ensures.count image s levels attempts h, ap (λ (l : List SourceForm). length l) h.sources)
