use Rattle.std.proofs.Common.{◌∙◌}
use Rattle.fv_c.proofs.HeaderLaws.{name_there}
use Rattle.fv_c.proofs.header.name_at.Goals as goal

pub guid_at-requires : goal.guid_at-requires
guid_at-requires c =
    (name_there c.requires.0 c.args.extent _ _ c.requires.1 (c.from-offset.ensures ∙ c.u16_at.ensures) c.if-offset-eq0.false).0

pub returns : goal.returns
returns c = λ h front.
    c.to_bytes.ensures ∙ c.guid_at.ensures
    ∙ (name_there h c.args.extent _ _ front (c.from-offset.ensures ∙ c.u16_at.ensures) c.if-offset-eq0.false).1
