use Rattle.std.proofs.Common.{◌≢◌, rules, map, inl, inr, subst, sym, IfErr, Ok}
use Rattle.fv_base.proofs.Laws.{err_is, bytes_take, out_of_memory, depth_limit}
use Rattle.fv_tree.specs.Words.{FaultHoldsInInput, file_form}
use Rattle.fv_tree.proofs.FaultLaws.{fault_stands}
use Rattle.fv_tree.proofs.FirstLaws.{only_answer}
use Rattle.fv_tree.proofs.LocatedLaws.{begun_data}
use Rattle.fv_tree.proofs.VolumePartLaws.{front_of}
use Rattle.fv_tree.proofs.WholeInputLaws.{volume_refused, goes_on, end_refused, end_found, end_only, stood_kind}
use Rattle.fv_tree.proofs.read.whole_volume_with_files.Goals as goal

pub returns-in_err-view-clause-rejected : goal.returns-in_err-view-clause-rejected
returns-in_err-view-clause-rejected c = rw (err_is c.from_residual.ensures.1) (volume_refused c.args.input.now _ c.in_err-view.ensures.read)

pub returns-in_err-view-clause-holds : goal.returns-in_err-view-clause-holds
returns-in_err-view-clause-holds c =
    subst (λ r. IfErr r (λ f. f ≢ out_of_memory → FaultHoldsInInput c.args.input.now f)) (sym (err_is c.from_residual.ensures.1))
    (λ other. inl (fault_stands c.args.input.now _ (c.in_err-view.ensures.read other)))

pub returns-in_err-view-clause-kind : goal.returns-in_err-view-clause-kind
returns-in_err-view-clause-kind c = rw (err_is c.from_residual.ensures.1) (stood_kind _ _ (λ ne. fault_stands _ _ (c.in_err-view.ensures.read ne)))

pub returns-in_err-view-clause-memory : goal.returns-in_err-view-clause-memory
returns-in_err-view-clause-memory c = rw (err_is c.from_residual.ensures.1) c.in_err-view.ensures.memory

pub returns-in_err-check-clause-rejected : goal.returns-in_err-check-clause-rejected
returns-in_err-check-clause-rejected c =
    let read = c.in_ok-view.ensures.read in
    let long = c.in_ok-view.ensures.length in
    let only = only_answer c.args.input.now (Ok (c.in_ok-view.view, c.in_ok-view.length)) read long in
    rw (err_is c.from_residual-in_err-check.ensures.1) (inr (end_refused _ _ _ _ (bytes_take _ c.args.input.now (search rules), read) long
    c.in_err-check.ensures.err.0 c.in_err-check.ensures.err.1 only))

pub returns-in_err-check-clause-holds : goal.returns-in_err-check-clause-holds
returns-in_err-check-clause-holds c =
    subst (λ r. IfErr r (λ f. f ≢ out_of_memory → FaultHoldsInInput c.args.input.now f)) (sym (err_is c.from_residual-in_err-check.ensures.1))
    (λ other. inr (goes_on _ _ _ _ (bytes_take _ c.args.input.now (search rules), c.in_ok-view.ensures.read)
    c.in_ok-view.ensures.length c.in_err-check.ensures.err.0 c.in_err-check.ensures.err.1))

pub returns-in_err-check-clause-kind : goal.returns-in_err-check-clause-kind
returns-in_err-check-clause-kind c = rw (err_is c.from_residual-in_err-check.ensures.1, c.in_err-check.ensures.err.1) (λ e. cc, λ e. cc)

pub returns-in_err-check-clause-memory : goal.returns-in_err-check-clause-memory
returns-in_err-check-clause-memory c =
    let front = front_of depth_limit c.in_ok-view.length c.args.input.now _ c.in_ok-view.ensures.length.1 c.in_ok-view.ensures.read in
    rw (err_is c.from_residual-in_err-check.ensures.1) (λ want. (_, _, front.0))

pub returns-clause-found : goal.returns-clause-found
returns-clause-found c =
    end_found c.args.input.now _ _ (bytes_take _ c.args.input.now (search rules), c.in_ok-view.ensures.read) c.in_ok-check.ensures.ok

pub returns-clause-only : goal.returns-clause-only
returns-clause-only c =
    let v = c.in_ok-view.view in
    end_only c.args.input.now v c.in_ok-view.length
    (only_answer c.args.input.now (Ok (v, c.in_ok-view.length)) c.in_ok-view.ensures.read c.in_ok-view.ensures.length)

pub returns-clause-data : goal.returns-clause-data
returns-clause-data c = begun_data c.args.input.now (map (file_form c.args.input.now) c.in_ok-view.files.items) c.in_ok-view.ensures.files
