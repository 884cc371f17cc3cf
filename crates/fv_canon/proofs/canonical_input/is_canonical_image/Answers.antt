use Rattle.std.proofs.Common.{◌++◌, rules, sym}
use denote.Enum.Bare.{same_true, same_false}
use Rattle.fv_base.specs.contracts.fault.FaultKind.{the_type}
use Rattle.fv_canon.proofs.ImageLaws.{image_told, none_refused, want_refused}
use Rattle.fv_canon.proofs.canonical_input.is_canonical_image.Goals as goal

pub returns-in-Ok-clause-ok : goal.returns-in-Ok-clause-ok
returns-in-Ok-clause-ok c =
    image_told c.args.view.now c.args.bytes.now (c.in-Ok.places.own ++ c.in-Ok.places.inner) c.is_image.result c.known.ensures
    c.in-Ok.ensures.layout.0 (rw c.starts.ensures at c.is_image.ensures)

pub returns-then-eq-clause-err : goal.returns-then-eq-clause-err
returns-then-eq-clause-err c =
    want_refused c.args.view.now c.in-Err.fault c.in-Err.ensures.err (same_true the_type (search rules) _ _ (sym c.if-eq.ensures))

pub returns-else-eq-clause-ok : goal.returns-else-eq-clause-ok
returns-else-eq-clause-ok c =
    let other = same_false the_type _ _ (sym c.if-eq.ensures) in
    (λ e. cc, λ is. absurd (none_refused c.args.view.now c.args.bytes.now c.in-Err.fault c.in-Err.ensures.err other is))
