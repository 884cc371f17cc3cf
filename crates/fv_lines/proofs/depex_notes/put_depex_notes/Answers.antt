use Rattle.std.proofs.Common.{[], take, take_all, refl}
use Rattle.fv_tree.proofs.Laws.{files_list_back}
use Rattle.fv_lines.specs.Words.{depexes_in, file_depexes}
use Rattle.fv_lines.proofs.DepexNoteLemmas.{puts_then}
use Rattle.fv_text.proofs.Laws.{texts_next}
use Rattle.fv_lines.proofs.depex_notes.put_depex_notes.Goals as goal

pub loop-file-init : goal.loop-file-init
loop-file-init g c = ([], refl, g.S.Sink.laws.none _)

pub loop-file-preserved : goal.loop-file-preserved
loop-file-preserved g c =
    let fs = c.files-files.result.now in
    let f = c.file-item.result in
    rw (texts_next file_depexes fs c.loop-file.file-index f c.loop-file-test.true, ← c.file-item.is)
    (puts_then g.S.Sink.laws (depexes_in (take c.loop-file.file-index fs)) (file_depexes f) _ _ _ c.loop-file.invariant c.put_file.ensures)

pub returns : goal.returns
returns g c =
    let all = take_all c.loop-file.file-index c.files-files.result.now c.loop-file-test.false in
    rw (c.files-files.ensures, files_list_back) (rw all at c.loop-file.invariant)
