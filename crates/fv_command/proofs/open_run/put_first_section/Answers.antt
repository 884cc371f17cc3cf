use Rattle.std.proofs.Common.{◌∙◌, List, ℕ, ap, subst}
use Rattle.fv_base.proofs.Laws.{volume_limit}
use Rattle.fv_open.specs.Words.{opened, way_of}
use Rattle.fv_command.specs.Words.{from_byte, OpeningStops}
use Rattle.fv_command.proofs.open_run.put_first_section.Goals as goal

pub returns : goal.returns
returns g c =
    let stops = c.in-Err-put_section.ensures in
    let same = c.from_byte.ensures ∙ ap (from_byte c.args.at) c.deref.ensures.value in (
      (_, c.in-Ok.ensures.ok, subst (λ (b : List ℕ). OpeningStops (way_of b) (opened volume_limit b) c.in-Err-put_section.fault) same stops.0),
      stops.1,
    )
