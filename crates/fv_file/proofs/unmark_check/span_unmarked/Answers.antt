use Rattle.std.proofs.Common.{◌≡◌, rules}
use Rattle.fv_base.proofs.Laws.{◌∙◌, ap, arith, inr, refl, sym, Err, err_is}
use Rattle.fv_base.specs.contracts.fault.FaultKind.{the_type}
use denote.Enum.Bare.{same_true}
use Rattle.fv_file.proofs.CellVerdictLemmas.{verdict_stands}
use Rattle.fv_file.proofs.MarkedFileLemmas.{FixedThere, fixed_there, cell_without, size_within, wrong_without}
use Rattle.fv_file.proofs.unmark_check.span_unmarked.Goals.{Then-eq}
use Rattle.fv_base.specs.declared.fault.FaultKind.TheVariants as kinds
use Rattle.fv_file.proofs.unmark_check.span_unmarked.Goals as goal

-- the fault is the fault of a fixed file
known : (c : Then-eq) → FixedThere c.args.system c.args.polarity c.args.at c.args.rest.now c.in-Err.fault
known c = fixed_there _ _ _ _ _ c.in-Err.ensures.rejected (same_true the_type (search rules) _ _ (sym c.if-eq.ensures))

pub span_of-requires : goal.span_of-requires
span_of-requires c =
    let stands = verdict_stands _ _ _ c.args.rest.now _ c.requires.multiple c.in-Ok.ensures.found in
    omega (arith, stands.within, c.requires.place)

pub sound_size-requires : goal.sound_size-requires
sound_size-requires c =
    let k = known (goal.at.sound_size-requires c).Then-eq in
    let size = size_within _ _ _ _ _ k in
    record { least = k.long; header = size.0; size = size.1; place = c.requires.place }

pub returns-in_err-size-in-Err-clause-rejected : goal.returns-in_err-size-in-Err-clause-rejected
returns-in_err-size-in-Err-clause-rejected c =
    let k = known (goal.at.returns-in_err-size-in-Err-clause-rejected c).Then-eq in
    let found = c.in_err-size-in-Err.ensures.wrong in
    rw (err_is c.from_residual.ensures.1) (
      _,
      inr (c.in-Err.ensures.rejected ∙ ap Err k.file.fault, refl),
      wrong_without _ _ _ _ _ k found.1 ∙ ap Err (sym found.0),
      λ e. let bad : kinds.FileSum ≡ kinds.Fixed = sym (ap (λ f. f.kind) found.0) ∙ e in cc,
    )

pub up_to_8-requires : goal.up_to_8-requires
up_to_8-requires c =
    let size = size_within _ _ _ _ _ (known (goal.at.up_to_8-requires c).Then-eq) in
    omega (arith, c.in_ok-size-in-Err.ensures.right.0, size.1, c.requires.place)

pub returns-then-eq-clause-found : goal.returns-then-eq-clause-found
returns-then-eq-clause-found c =
    let k = known (goal.at.returns-then-eq-clause-found c).Then-eq in
    let right = c.in_ok-size-in-Err.ensures.right in
    let cell = cell_without _ _ _ _ _ k right.1 in (
      _,
      inr (c.in-Err.ensures.rejected ∙ ap Err k.file.fault, refl),
      (cell.0, cell.1, rw (c.up_to_8.ensures, right.0) (sym cell.2)),
      inr (rw (c.up_to_8.ensures, right.0) cell.3),
    )
