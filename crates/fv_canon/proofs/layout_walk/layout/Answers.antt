use Rattle.fv_base.proofs.Laws.{common_steps, arith, err_is, first_only}
use Rattle.fv_rows.proofs.Laws.{tree_volumes}
use Rattle.fv_canon.specs.Words.{AreAllStarts}
use Rattle.fv_tree.specs.Words.{volumes_in}
use Rattle.fv_canon.proofs.FitLaws.{unfit_none}
use Rattle.fv_canon.proofs.LayoutWalkLaws.{starts_need_file}
use Rattle.fv_canon.proofs.LayoutLaws.{layout_is, own_first, starts_same}
use Rattle.fv_canon.proofs.layout_walk.layout.Goals as goal

pub returns-clause-layout : goal.returns-clause-layout
returns-clause-layout c =
    let laid : AreAllStarts c.args.view.now c.in_ok-starts.starts.items = rw (c.of.ensures, tree_volumes c.args.view.now) at c.in_ok-starts.ensures.ok in
    layout_is c.args.view.now c.files-own.result.now c.in_ok-starts.starts.items c.new.result c.files-own.ensures laid c.new.ensures.own
    c.new.ensures.inner

pub returns-clause-only : goal.returns-clause-only
returns-clause-only c starts laid = starts_same (volumes_in c.args.view.now) starts _ laid (returns-clause-layout c).0

pub returns-clause-least : goal.returns-clause-least
returns-clause-least c = (own_first c.args.view.now c.new.result (returns-clause-layout c)).least

pub returns-in_err-starts-clause-err : goal.returns-in_err-starts-clause-err
returns-in_err-starts-clause-err c = grind (arith, common_steps, err_is, tree_volumes) steps 400000

pub returns-in_err-starts-clause-fits : goal.returns-in_err-starts-clause-fits
returns-in_err-starts-clause-fits c fit = grind (arith, common_steps, err_is, first_only, tree_volumes, unfit_none) steps 400000

pub returns-in_err-starts-clause-memory : goal.returns-in_err-starts-clause-memory
returns-in_err-starts-clause-memory c =
    rw (err_is c.from_residual.ensures.1) (λ want. starts_need_file c.args.view.now
    ((rw (c.of.ensures, tree_volumes c.args.view.now) at c.in_err-starts.ensures.memory) want))
