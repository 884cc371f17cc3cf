use Rattle.std.proofs.Common.{◌≡◌, ◌∙◌, ap, arith, rules, sym}
use Rattle.fv_base.proofs.Laws.{field-take, le}
use Rattle.fv_head.proofs.Laws.{front_lies}
use Rattle.fv_c.specs.ReportedHeaders.{volume_name}
use Rattle.fv_c.proofs.header.header_of.Goals as goal

pub returns : goal.returns
returns c = λ h front.
    let least = (front_lies _ h c.args.extent front).least in
    let there = ap le (sym (field-take 44 4 c.args.extent.header_len c.args.bytes.now (omega (arith, least)))) in
    let attributes : c.u32_at.result ≡ h.attributes = c.u32_at.ensures ∙ there ∙ front.head.attributes in
    let name : c.name_at.result ≡ volume_name h.ext = c.name_at.ensures h front in
    search rules
