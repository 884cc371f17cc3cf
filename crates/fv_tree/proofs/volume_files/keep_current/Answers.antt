use Rattle.std.proofs.Common.{◌∙◌, rules, ap, arith, map, List, Bool, not}
use Rattle.fv_base.proofs.Laws.{Contains, get_or-map, length-map, list_any}
use Rattle.fv_names.specs.Words.{NamedFile, replaced_by}
use Rattle.fv_tree.specs.Words.{file_form}
use Rattle.fv_tree.specs.declared.volume_files.LocatedFile.{LocatedFile}
use Rattle.fv_tree.specs.inner.NameForms.{named_file}
use Rattle.fv_tree.proofs.NamedLaws.{kept_current, retained}
use Rattle.fv_tree.proofs.volume_files.keep_current.Goals as goal

pub returns : goal.returns
returns c = λ b.
    let files : List LocatedFile = c.args.files.now.items in
    let all : List NamedFile = map named_file files in
    let test : LocatedFile → Bool = λ s. not (list_any (replaced_by (named_file s)) all) in
    ap (map (file_form b)) (retained _ test _ files (λ s kept f' (n, l, is) k.
    let member : Contains all (named_file s) =
    (n, omega (arith, l, length-map files named_file), get_or-map named_file files n s (named_file s) l ∙ ap named_file is) in
    search (rules, member, c.requires.index, c.requires.no_twins)) _ c.retain.ensures.filtered) ∙ kept_current b files
