use Rattle.std.proofs.Common.{◌≡◌, ◌∙◌, None, Some, refl, sym}
use Rattle.std.specs.Prelude.{option_map}
use Rattle.fv_base.specs.declared.fault.Fault.{Fault}
use Rattle.fv_base.specs.inner.Verdicts.{first_fault}
use Rattle.fv_file.specs.Words.{cell_checks}
use Rattle.fv_survey.specs.Words.{system_by}
use Rattle.fv_survey.proofs.StrictPieceLaws.{failed_first, none_failed, strict_is}
use Rattle.fv_survey.proofs.pieces.strict_kind.Goals as goal

pub returns-in-Ok : goal.returns-in-Ok
returns-in-Ok c =
    let is : None ≡ option_map (λ (f : Fault). f.kind)
    (first_fault (cell_checks (system_by c.args.layout.files) c.args.layout.polarity 0 c.args.rest.now)) =
    rw (none_failed (system_by c.args.layout.files) c.args.layout.polarity c.args.rest.now c.in-Ok.field-0 c.next_cell.new.self c.requires.header
    (rw (c.of-walk.ensures, c.strict_system.ensures) at c.in-Ok.ensures.some) (rw (c.of-walk.ensures, c.strict_system.ensures) at c.in-Ok.ensures.none))
    refl in
    is ∙ sym (strict_is c.args.layout c.args.rest.now)

pub returns-in-Err : goal.returns-in-Err
returns-in-Err c =
    let is : Some c.in-Err.fault.kind ≡ option_map (λ (f : Fault). f.kind)
    (first_fault (cell_checks (system_by c.args.layout.files) c.args.layout.polarity 0 c.args.rest.now)) =
    rw (failed_first (system_by c.args.layout.files) c.args.layout.polarity c.args.rest.now c.in-Err.fault
    (rw (c.of-walk.ensures, c.strict_system.ensures) at c.in-Err.ensures.first.0)) refl in
    is ∙ sym (strict_is c.args.layout c.args.rest.now)
