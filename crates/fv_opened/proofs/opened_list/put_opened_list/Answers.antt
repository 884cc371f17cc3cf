use Rattle.fv_opened.proofs.RowDepthLemmas.{volume_shallow}
use Rattle.fv_opened.proofs.opened_list.put_opened_list.Goals as goal

pub put_rows-requires-clause-rows : goal.put_rows-requires-clause-rows
put_rows-requires-clause-rows g c = rw c.of.ensures (volume_shallow _ c.known.ensures)
