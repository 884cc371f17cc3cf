use Rattle.std.proofs.Common.{◌++◌, ◌∷◌, [], ◌∙◌, ap}
use Rattle.fv_base.proofs.Laws.{on_ok_weaker, bytes_of, le_bytes}
use Rattle.fv_hob.proofs.WriteLemmas.{more_fields, no_field, one_field}
use Rattle.fv_hob.proofs.write.push_allocation.Goals as goal

pub returns : goal.returns
returns c =
    let fields = c.args.fields.now in
    let name = one_field (bytes_of fields.name) (no_field c.args.bytes.now.items) c.in_ok-push_guid.ensures in
    let span = more_fields (le_bytes 8 fields.base ∷ le_bytes 8 fields.length ∷ []) name c.in_ok-push_span.ensures in
    let kind = one_field (le_bytes 4 fields.memory_type) span c.in_ok-push_u32.ensures in
    let reserved = one_field fields.reserved kind c.in_ok-push_bytes.ensures in
    on_ok_weaker c.push_bytes-2.result
    (λ rest. (one_field fields.rest reserved (rest ∙ ap (λ l. c.push_bytes.new.bytes.items ++ l) c.as_slice.ensures)).is)
    c.push_bytes-2.ensures
