use Rattle.std.proofs.Common.{[], ap, inl, inr, map, length, arith}
use Rattle.fv_base.proofs.Laws.{err_is, length-map}
use Rattle.fv_tree.specs.Words.{file_form}
use Rattle.fv_tree.proofs.FileCountLaws.{current_few}
use Rattle.fv_tree.proofs.NamedLaws.{twins_from}
use Rattle.fv_tree.proofs.volume_files.files_sharing_names.Goals as goal

pub returns-in_err-check_twins-clause-first : goal.returns-in_err-check_twins-clause-first
returns-in_err-check_twins-clause-first c = rw (err_is c.from_residual.ensures.1) (λ ne b.
    inl (rw c.as_slice.ensures.value at (c.in_err-check_twins.ensures.first b)))

pub returns-in_err-check_top-clause-first : goal.returns-in_err-check_top-clause-first
returns-in_err-check_top-clause-first c = rw (err_is c.from_residual-in_err-check_top.ensures.1) (λ ne b.
    let none = twins_from b c.args.files.items (rw c.as_slice.ensures.value at c.in_ok-check_twins.ensures.found) in
    let first = rw (c.as_slice-2.ensures.value, c.keep_current.ensures b) at (c.in_err-check_top.ensures.first b) in
    inr (none, first.0, first.1, first.2))

pub refill-requires : goal.refill-requires
refill-requires c =
    let form = file_form [] in
    let kept = ap length (c.keep_current.ensures []) in
    let new = length-map c.keep_current.new.files.items form in
    let few = current_few (map form c.args.files.items) in
    omega (arith, ap length c.as_slice-3.ensures.value, kept, new, length-map c.args.files.items form, few, c.requires.few)

pub returns-clause-found : goal.returns-clause-found
returns-clause-found c = λ b. record {
  no_twins = twins_from b c.args.files.items (rw c.as_slice.ensures.value at c.in_ok-check_twins.ensures.found);
  files_are = c.keep_current.ensures b;
  top = rw c.as_slice-2.ensures.value at (c.in_ok-check_top.ensures.found b);
}
