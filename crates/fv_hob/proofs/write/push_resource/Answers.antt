use Rattle.std.proofs.Common.{◌∷◌, []}
use Rattle.fv_base.proofs.Laws.{on_ok_weaker, bytes_of, le_bytes}
use Rattle.fv_hob.proofs.WriteLemmas.{more_fields, no_field, one_field}
use Rattle.fv_hob.proofs.write.push_resource.Goals as goal

pub returns : goal.returns
returns c =
    let fields = c.args.fields.now in
    let owner = one_field (bytes_of fields.owner) (no_field c.args.bytes.now.items) c.in_ok-push_guid.ensures in
    let kind = one_field (le_bytes 4 fields.resource_type) owner c.in_ok-push_u32.ensures in
    let attribute = one_field (le_bytes 4 fields.attribute) kind c.in_ok-push_u32-2.ensures in
    on_ok_weaker c.push_span.result
    (λ end. (more_fields (le_bytes 8 fields.start ∷ le_bytes 8 fields.length ∷ []) attribute end).is) c.push_span.ensures
