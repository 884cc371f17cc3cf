use Rattle.std.proofs.Common.{◌∙◌}
use Rattle.fv_c.proofs.RowBytes.{leaf_is, plain_is}
use Rattle.fv_c.proofs.laws.rows_have_their_bytes.Goals as goal

pub returns-clause-volume : goal.returns-clause-volume
returns-clause-volume c input rows row r m own is = (rw is at own.placed).0

pub returns-clause-file : goal.returns-clause-file
returns-clause-file c input rows row r m b own is plain =
    let (holder, at, file) = rw is at own.placed in file.payload ∙ plain_is file.file m b file.means plain

pub returns-clause-section : goal.returns-clause-section
returns-clause-section c input rows row r s b own is leaf =
    let (holder, at, section) = rw is at own.placed in section.body ∙ leaf_is section.frame s b section.means leaf
