use Rattle.std.proofs.Common.{◌∙◌, sym, ap}
use Rattle.fv_base.proofs.Laws.{list_any}
use Rattle.fv_survey.specs.inner.LastFiles.{is_early_top}
use Rattle.fv_survey.proofs.NameLaws.{top_elsewhere}
use Rattle.fv_survey.proofs.names.has_top_elsewhere.Goals as goal

pub returns : goal.returns
returns c =
    let files = c.args.files.now in
    c.has_early_top.ensures ∙ ap (λ update. list_any (is_early_top update) files) c.has_unmarked_top-has_update.ensures
    ∙ sym (top_elsewhere files c.requires)
