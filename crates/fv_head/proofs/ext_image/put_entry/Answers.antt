use Rattle.std.proofs.Common.{◌+◌, ℕ}
use Rattle.fv_base.proofs.Laws.{ap, List, length, le_bytes}
use Rattle.fv_head.proofs.HeadWalkLemmas.{renamed}
use Rattle.fv_head.proofs.ext_image.put_entry.Goals as goal

pub returns : goal.returns
returns g c =
    let laws = g.S.Sink.laws in
    let size = renamed g.S.Sink.takes c.put_u16.ensures (ap (λ (xs : List ℕ). le_bytes 2 (4 + length xs)) c.payload.ensures) in
    let kind = renamed g.S.Sink.takes c.put_u16-2.ensures (ap (le_bytes 2) c.kind.ensures) in
    laws.joined (laws.joined size kind) c.put_payload.ensures
