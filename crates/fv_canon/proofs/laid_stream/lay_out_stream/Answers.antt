use Rattle.fv_base.proofs.Laws.{IfErr-weaker, first_only}
use Rattle.fv_rows.proofs.Laws.{stream_volumes}
use Rattle.fv_tree.specs.Words.{sections_from}
use Rattle.fv_canon.proofs.FitLaws.{first_none}
use Rattle.fv_canon.proofs.LayoutWalkLaws.{starts_need_some}
use Rattle.fv_canon.proofs.laid_stream.lay_out_stream.Goals as goal

pub returns : goal.returns
returns c =
    let made = c.starts_of.ensures in
    let laid = rw (c.of_stream.ensures, stream_volumes (sections_from c.args.stream.now.0)) at made in
    record {
      ok = laid.ok;
      err = laid.err;
      fits = λ fit. IfErr-weaker c.starts_of.result _ _ (λ f why. first_only why (λ unfit. first_none _ 0 _ unfit fit)) laid.err;
      memory = IfErr-weaker c.starts_of.result _ _ (λ f some want. starts_need_some _ (some want)) laid.memory;
    }
