use Rattle.std.proofs.Common.{◌≡◌, rules}
use Rattle.std.proofs.lemmas.Result.{IfErr-weaker}
use Rattle.fv_base.proofs.Laws.{first_only, want_known}
use Rattle.fv_base.specs.Words.{depth_limit}
use Rattle.fv_tree.specs.Words.{Accepted}
use Rattle.fv_tree.proofs.Laws.{volume_files}
use Rattle.fv_c.proofs.TreeRows.{contents}
use Rattle.fv_c.proofs.tree.files_in.Goals as goal

-- finding the files of a volume that was read can fail only if memory runs out
pub returns-clause-err : goal.returns-clause-err
returns-clause-err c =
    let (rows, r, found) = c.requires.row in
    let files : c.args.node.now.content ≡ 0 = search rules in
    let (m, read) = (contents found).volume files in
    let accepted : Accepted c.bytes_of_row.result.now m = rw c.bytes_of_row.ensures read in
    IfErr-weaker c.located_files.result _ _
    (λ f none. first_only (want_known f) (λ ne. none ne accepted.1.files (volume_files depth_limit c.bytes_of_row.result.now m accepted.1))) c.located_files.ensures.none
