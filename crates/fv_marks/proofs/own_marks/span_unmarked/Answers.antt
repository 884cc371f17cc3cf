use Rattle.std.proofs.Common.{◌≡◌, rules}
use Rattle.fv_base.proofs.Laws.{sym, inr}
use Rattle.fv_base.specs.contracts.fault.FaultKind.{the_type}
use Rattle.fv_base.specs.declared.fault.FaultKind.TheVariants as kinds
use denote.Enum.Bare.{same_true}
use Rattle.fv_marks.proofs.OwnMarkLemmas.{fixed_place, next_other}
use Rattle.fv_marks.proofs.own_marks.span_unmarked.Goals.{Then-eq}
use Rattle.fv_marks.proofs.own_marks.span_unmarked.Goals as goal

-- the fault is the fault of a fixed file
known : (c : Then-eq) → c.in-Err.fault.kind ≡ kinds.Fixed
known c = same_true the_type (search rules) _ _ (sym c.if-eq.ensures)

pub unmark_at-requires-clause-within : goal.unmark_at-requires-clause-within
unmark_at-requires-clause-within c =
    (fixed_place _ _ _ c.args.volume.now _ c.requires.within c.in-Err.ensures.fault (known (goal.at.unmark_at-requires-clause-within c).Then-eq)).0

pub unmark_at-requires-clause-fixed : goal.unmark_at-requires-clause-fixed
unmark_at-requires-clause-fixed c =
    (fixed_place _ _ _ c.args.volume.now _ c.requires.within c.in-Err.ensures.fault (known (goal.at.unmark_at-requires-clause-fixed c).Then-eq)).1

pub returns-in-Err-span_at-clause-none : goal.returns-in-Err-span_at-clause-none
returns-in-Err-span_at-clause-none c =
    let kind = known (goal.at.returns-in-Err-span_at-clause-none c).Then-eq in
    inr (
      _,
      c.in-Err-span_at.ensures.fault,
      next_other _ _ _ c.args.volume.now _ _ c.in-Err.ensures.fault kind
          (rw c.unmark_at.ensures at c.in-Err-span_at.ensures.fault),
    )
