use Rattle.std.proofs.Common.{rules, ◌==◌, ◌∙◌, List, sym, ap, Bool, tests}
use Rattle.fv_base.proofs.Laws.{YieldsList-from_filter}
use Rattle.std.proofs.lemmas.Iterator.{YieldsList-from_slice}
use Rattle.fv_tree.specs.Words.{file_of_type, FileMeaning, files_of, file_kind_of}
use Rattle.fv_tree.proofs.LookupLaws.{numbered_is}
use Rattle.fv_tree.proofs.VolumePartLaws.{files_list_back}
use Rattle.fv_tree.proofs.lookup.file_by_type.Goals as goal

pub returns : goal.returns
returns c =
    let fs : List FileMeaning = c.files.result.now in
    let test : FileMeaning → Bool = λ f. file_kind_of f == c.args.kind in
    numbered_is c.numbered.result c.args.instance c.numbered.ensures.zero c.numbered.ensures.nth
    (YieldsList-from_filter _ test (YieldsList-from_slice fs (cc)) c.filter-files.ensures.closure (λ x r q k. search (rules, tests)))
    ∙ ap (file_of_type c.args.kind c.args.instance) (sym (ap files_of c.files.ensures ∙ files_list_back fs))
