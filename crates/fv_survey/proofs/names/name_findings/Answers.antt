use Rattle.std.proofs.Common.{◌∙◌, ap, sym, subst}
use Rattle.fv_survey.specs.Words.{files_findings, name_findings}
use Rattle.fv_survey.specs.inner.LastFiles.{EndIsLast}
use Rattle.fv_survey.proofs.NameLaws.{body_last, findings_are}
use Rattle.fv_survey.proofs.names.name_findings.Goals as goal

pub has_top_elsewhere-has_top_elsewhere-requires : goal.has_top_elsewhere-has_top_elsewhere-requires
has_top_elsewhere-has_top_elsewhere-requires c =
    subst EndIsLast (sym (c.as_slice-2.ensures.value ∙ c.in_ok-files.ensures.files))
    (body_last c.args.parts c.args.bytes.now c.requires.within)

pub returns-clause-findings : goal.returns-clause-findings
unfolding name_findings
returns-clause-findings c =
    findings_are c.in_ok-files.files.items _ _ c.with_if.result c.with_if-2.result
    (rw c.as_slice.ensures.value at c.in_ok-has_twins.ensures.twins)
    (rw c.as_slice-2.ensures.value at c.has_top_elsewhere-has_top_elsewhere.ensures) c.with_if.ensures c.with_if-2.ensures
    ∙ ap files_findings c.in_ok-files.ensures.files
