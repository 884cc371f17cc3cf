use Rattle.std.proofs.Common.{◌*◌, ◌≤◌, [], length, sym, subst, arith}
use Rattle.fv_survey.specs.Words.{Forest, IsForest, IsHonest, PassesNothing, Tile, TileEach}
use Rattle.fv_survey.proofs.SurveyLaws.{all_lent, few, honest, inside, nesting, passing, tiling}
use Rattle.fv_survey.proofs.walk.survey.Goals as goal

pub returns-clause-tiling : goal.returns-clause-tiling
returns-clause-tiling c =
    subst (Tile (length c.args.image.now))
    (sym (all_lent c.loop-rows.rows.items c.loop-rows.walk c.next_row.new.self c.args.image.now c.in_ok-row.field-0 c.loop-rows.invariant
    c.in_default.is c.in_ok-row.ensures.none)) (tiling c.args.image.now (omega arith))

pub returns-clause-inside : goal.returns-clause-inside
returns-clause-inside c =
    subst TileEach
    (sym (all_lent c.loop-rows.rows.items c.loop-rows.walk c.next_row.new.self c.args.image.now c.in_ok-row.field-0 c.loop-rows.invariant
    c.in_default.is c.in_ok-row.ensures.none)) (inside c.args.image.now (omega arith))

pub returns-clause-nesting : goal.returns-clause-nesting
returns-clause-nesting c =
    subst (λ rows. (f : Forest) × IsForest (length c.args.image.now) rows f)
    (sym (all_lent c.loop-rows.rows.items c.loop-rows.walk c.next_row.new.self c.args.image.now c.in_ok-row.field-0 c.loop-rows.invariant
    c.in_default.is c.in_ok-row.ensures.none)) (nesting c.args.image.now (omega arith))

pub returns-clause-passes : goal.returns-clause-passes
returns-clause-passes c =
    subst (λ rows. (f : Forest) × IsForest (length c.args.image.now) rows f × PassesNothing c.args.image.now 0 f)
    (sym (all_lent c.loop-rows.rows.items c.loop-rows.walk c.next_row.new.self c.args.image.now c.in_ok-row.field-0 c.loop-rows.invariant
    c.in_default.is c.in_ok-row.ensures.none)) (passing c.args.image.now (omega arith))

pub returns-clause-honest : goal.returns-clause-honest
returns-clause-honest c =
    subst (λ rows. (f : Forest) × IsForest (length c.args.image.now) rows f × IsHonest c.args.image.now [] [] f)
    (sym (all_lent c.loop-rows.rows.items c.loop-rows.walk c.next_row.new.self c.args.image.now c.in_ok-row.field-0 c.loop-rows.invariant
    c.in_default.is c.in_ok-row.ensures.none)) (honest c.args.image.now (omega arith))

pub returns-clause-few : goal.returns-clause-few
returns-clause-few c =
    subst (λ rows. length rows ≤ 2 * length c.args.image.now)
    (sym (all_lent c.loop-rows.rows.items c.loop-rows.walk c.next_row.new.self c.args.image.now c.in_ok-row.field-0 c.loop-rows.invariant
    c.in_default.is c.in_ok-row.ensures.none)) (few c.args.image.now)
