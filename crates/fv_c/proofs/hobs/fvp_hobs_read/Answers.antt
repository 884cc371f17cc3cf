use Rattle.std.proofs.Common.{◌∙◌, refl}
use Rattle.std.proofs.lemmas.List.{length-map}
use Rattle.fv_c.proofs.hobs.fvp_hobs_read.Goals as goal

pub returns-in-Err-clause-err : goal.returns-in-Err-clause-err
returns-in-Err-clause-err c = λ _ _.
    let e = c.in-Err.ensures in
    let set = c.set_fault_at.ensures in
    let is = c.hob_result.ensures in
    (c.in-Err.f, λ other. record { none = e.none other; first = e.first other }, e.memory, set.number ∙ is, set.fault _ is, refl, refl)

pub returns-in-Ok-clause-ok : goal.returns-in-Ok-clause-ok
returns-in-Ok-clause-ok c = λ zero.
    let (put, count) = rw c.as_slice.ensures.blocks at c.put_translated.ensures.written in
    let (within, list) = c.in-Ok.ensures.found in
    (c.in-Ok.hobs, within, list, count, simp length-map at (put.ok zero), c.put_translated.ensures.fault)

pub returns-in-Ok-clause-small : goal.returns-in-Ok-clause-small
returns-in-Ok-clause-small c = λ short.
    let (put, count) = rw c.as_slice.ensures.blocks at c.put_translated.ensures.written in
    let (within, list) = c.in-Ok.ensures.found in
    (c.in-Ok.hobs, within, list, count, simp length-map at (put.small short), c.put_translated.ensures.fault)
