use Rattle.fv_base.proofs.Laws.{IfErr-weaker, IfOk-weaker}
use Rattle.fv_rows.proofs.Laws.{file_inside}
use Rattle.fv_canon.proofs.LayoutWalkLaws.{starts_need_some}
use Rattle.fv_canon.proofs.PartLengthLaws.{data_long}
use Rattle.fv_canon.proofs.parts.lay_out_data.Goals as goal

pub returns : goal.returns
returns c =
    let made = c.starts_of.ensures in
    let laid = rw (c.inside.ensures, file_inside c.args.file.now) at made in
    record {
      ok = laid.ok;
      long = IfOk-weaker c.starts_of.result _ _ (λ starts own. data_long c.args.file.now starts.items c.known.ensures own) laid.ok;
      err = laid.err;
      memory = IfErr-weaker c.starts_of.result _ _ (λ f some want. starts_need_some _ (some want)) laid.memory;
    }
