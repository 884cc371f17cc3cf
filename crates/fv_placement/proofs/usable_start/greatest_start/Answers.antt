use Rattle.std.proofs.Common.{◌-◌, refl, arith}
use Rattle.fv_placement.specs.inner.Reaches.{IsUsableStart}
use Rattle.fv_placement.proofs.UsableStartLaws.{not_true, never_true, data_back, below_missed, data_most, second_serves}
use Rattle.fv_placement.proofs.usable_start.greatest_start.Goals as goal

pub returns-then-start-step-clause-none : goal.returns-then-start-step-clause-none
returns-then-start-step-clause-none c s v =
    let low = below_missed c.args.total c.args.item.now c.args.after c.widened-step.result c.round_down-data.result s c.widened-step.ensures
    c.requires.item.header c.round_down-data.ensures.multiple (omega arith) (λ y p q. c.round_down-data.ensures.greatest y p (omega arith))
    (λ u. never_true (c.if-is_usable_start-2.ensures.1 u)) v in
    omega (arith, low)

pub returns-clause-found : goal.returns-clause-found
returns-clause-found c =
    let not = λ (u : IsUsableStart c.args.total c.args.item.now c.args.after (c.round_down-data.result - c.args.item.now.header)).
    never_true (c.if-is_usable_start-2.ensures.1 u) in
    let multiple = data_back c.round_down-data.result c.args.item.now.header c.widened-step.result (omega arith)
    c.round_down-data.ensures.multiple in (
      second_serves c.args.total c.args.item.now c.args.after c.widened-step.result (c.round_down-data.result - c.args.item.now.header)
          c.widened-step.ensures c.requires.item.header (not_true c.args.item.now.top c.if-item.false) c.requires.after.1 multiple (omega arith)
          (omega arith) (omega arith) not,
      λ t v. let low = below_missed c.args.total c.args.item.now c.args.after c.widened-step.result c.round_down-data.result t
          c.widened-step.ensures c.requires.item.header c.round_down-data.ensures.multiple (omega arith)
          (λ y p q. c.round_down-data.ensures.greatest y p (omega arith)) not v in omega (arith, low),
    )

pub returns-then-data-item-clause-none : goal.returns-then-data-item-clause-none
returns-then-data-item-clause-none c s v =
    let low = data_most c.args.total c.args.item.now c.args.after c.widened-step.result c.round_down-data.result s c.widened-step.ensures
    c.requires.item.header (λ y p q. c.round_down-data.ensures.greatest y p (omega arith)) v in
    omega (arith, low)

pub returns-then-is_usable_start-2-clause-found : goal.returns-then-is_usable_start-2-clause-found
returns-then-is_usable_start-2-clause-found c = (
  c.if-is_usable_start-2.ensures.0 refl,
  λ t v. let low = data_most c.args.total c.args.item.now c.args.after c.widened-step.result c.round_down-data.result t
      c.widened-step.ensures c.requires.item.header (λ y p q. c.round_down-data.ensures.greatest y p (omega arith)) v in omega (arith, low),
)
