use Rattle.fv_base.proofs.Laws.{on_ok_weaker, le_bytes}
use Rattle.fv_hob.proofs.WriteLemmas.{no_field, one_field}
use Rattle.fv_hob.proofs.write.push_handoff.Goals as goal

pub returns : goal.returns
returns c =
    let fields = c.args.fields.now in
    let version = one_field (le_bytes 4 fields.version) (no_field c.args.bytes.now.items) c.in_ok-push_u32.ensures in
    let mode = one_field (le_bytes 4 fields.boot_mode) version c.in_ok-push_u32-2.ensures in
    let top = one_field (le_bytes 8 fields.memory_top) mode c.in_ok-push_u64.ensures in
    let bottom = one_field (le_bytes 8 fields.memory_bottom) top c.in_ok-push_u64-2.ensures in
    let free_top = one_field (le_bytes 8 fields.free_memory_top) bottom c.in_ok-push_u64-3.ensures in
    let free_bottom = one_field (le_bytes 8 fields.free_memory_bottom) free_top c.in_ok-push_u64-4.ensures in
    on_ok_weaker c.push_u64-5.result (λ end. (one_field (le_bytes 8 fields.end_of_list) free_bottom end).is) c.push_u64-5.ensures
