use Rattle.std.proofs.Common.{◌≡◌, ◌∙◌, ap₂, arith, length, set, take_all, zero-add}
use Rattle.std.proofs.lemmas.List.Edits.{paste_more}
use Rattle.fv_base.proofs.Laws.{at_index}
use Rattle.fv_flash.specs.Words.{VolumeAt}
use Rattle.fv_c.proofs.HeaderRows.{header_at, one_each}
use Rattle.fv_c.proofs.scan.put_each_header.Goals as goal

pub header_at-requires : goal.header_at-requires
header_at-requires c =
    (_, at_index (λ v. VolumeAt c.args.image.now v.offset v.length) c.args.volumes.now c.loop-i.i _ c.requires.volumes.1 c.loop-i-test.true)

pub loop-i-preserved : goal.loop-i-preserved
loop-i-preserved c = λ headers are.
    let long = one_each _ _ _ c.requires.volumes are in
    let step = paste_more c.args.rows.now 0 headers c.loop-i.i c.header_at.result (omega arith) (omega arith) in
    ap₂ (λ rows row. set rows c.loop-i.i row) (c.loop-i.invariant headers are)
    (header_at _ _ _ c.requires.volumes are c.loop-i.i _ _ _ c.loop-i-test.true c.header_at.ensures.offset c.header_at.ensures.header)
    ∙ (simp zero-add at step)

pub returns : goal.returns
returns c = λ headers are.
    let long = one_each _ _ _ c.requires.volumes are in
    let all = take_all c.loop-i.i headers (omega arith) in
    let done : c.loop-i.i ≡ length headers = omega arith in
    rw (← done) (rw all at (c.loop-i.invariant headers are))
