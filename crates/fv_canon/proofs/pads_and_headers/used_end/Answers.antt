use Rattle.std.proofs.Common.{◌≡◌, ◌≤◌, ◌<◌, ◌+◌, ◌-◌, ℕ, length, get_or, sym, ap, ◌∙◌, arith, map}
use Rattle.fv_base.proofs.Laws.{common_steps, length-map, volume_limit}
use Rattle.fv_canon.specs.inner.FileWalks.{used_by}
use Rattle.fv_canon.specs.Words.{placement_item, size_for}
use Rattle.fv_placement.proofs.Laws.{follow_length}
use Rattle.fv_tree.specs.Words.{data_len_of}
use Rattle.fv_canon.proofs.VolumeWalks.{used_last}
use Rattle.fv_canon.proofs.pads_and_headers.used_end.Goals.{After-data_len}
use Rattle.fv_canon.proofs.pads_and_headers.used_end.Goals as goal

pub bounds-own-last : goal.bounds-own-last
bounds-own-last c = grind (arith, common_steps, follow_length, length-map) steps 400000

-- the last file ends where the used bytes end, within the limit of a volume's length
last_end : (c : After-data_len) → let end : ℕ = get_or c.args.own.now (length c.args.files.now - 1) 0 + size_for c.data_len.result in
    (end ≡ used_by c.args.first (map placement_item c.args.files.now) c.args.own.now) × (end ≤ volume_limit)
last_end c =
    let some : 0 < length c.args.files.now = grind (arith, common_steps, c.is_empty.ensures, c.if-is_empty.false) in
    let n : ℕ = length c.args.files.now - 1 in
    let r = used_last c.requires.0 c.args.first c.args.first c.args.files.now c.args.own.now n c.index-files-last.result
    (omega (arith, some)) c.requires.1.follow in
    let same = ap (λ (k : ℕ). get_or c.args.own.now n 0 + size_for k) (c.data_len.ensures ∙ ap data_len_of c.index-files-last.is) in
    (same ∙ sym r.0, omega (arith, r.1, same, c.requires.1.limit))

pub size_for-requires : goal.size_for-requires
size_for-requires c = omega (arith, (last_end (goal.at.size_for-requires c).After-data_len).1)

pub overflow_add-result : goal.overflow_add-result
overflow_add-result c = omega (arith, (last_end (goal.at.overflow_add-result c).After-data_len).1, c.size_for.ensures)

pub returns-clause-used : goal.returns-clause-used
returns-clause-used c =
    let end = last_end (goal.at.returns-clause-used c).After-data_len in
    ap (λ (k : ℕ). get_or c.args.own.now (length c.args.files.now - 1) 0 + k) c.size_for.ensures ∙ end.0

pub returns-clause-most : goal.returns-clause-most
returns-clause-most c = omega (arith, (last_end (goal.at.returns-clause-most c).After-data_len).1, c.size_for.ensures)
