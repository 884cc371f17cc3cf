use Rattle.std.proofs.Common.{◌∙◌}
use Rattle.fv_c.proofs.RowBytes.{leaf_is, plain_is}
use Rattle.fv_c.proofs.TreeRows.{stream_lies}
use Rattle.fv_c.proofs.laws.stream_rows_have_their_bytes.Goals as goal

pub returns-clause-volume : goal.returns-clause-volume
returns-clause-volume c input rows row r m own is = rw is at (stream_lies own)

pub returns-clause-file : goal.returns-clause-file
returns-clause-file c input rows row r m b own is plain =
    let (holder, file) = rw is at (stream_lies own) in file.payload ∙ plain_is file.file m b file.means plain

pub returns-clause-section : goal.returns-clause-section
returns-clause-section c input rows row r s b own is leaf =
    let (holder, section) = rw is at (stream_lies own) in section.body ∙ leaf_is section.frame s b section.means leaf
