use Rattle.std.proofs.Common.{refl, sym, subst}
use Rattle.fv_head.specs.Words.{BeginsVolume}
use Rattle.fv_flash.proofs.ScanLaws.{reached_first, reached_joined, reached_more, from_joined}
use Rattle.fv_flash.proofs.scanner.next_volume.Goals as goal

pub loop-at-init : goal.loop-at-init
loop-at-init c = reached_first c.args.bytes.now c.args.from c.requires.multiple c.requires.within

pub returns-in-Ok-clause-some : goal.returns-in-Ok-clause-some
returns-in-Ok-clause-some c =
    let s = c.in-Some.ensures.some in
    let f = c.in-Ok.ensures.found in
    let r = reached_joined c.args.bytes.now c.args.from c.loop-at.place c.in-Some.at c.loop-at.invariant s.0 in
    let there = subst (BeginsVolume f.0 c.in-Ok.extent) c.bytes_from.ensures f.1 in
    (r.least, r.multiple, r.none, (f.0, c.in-Ok.extent, there, refl))

pub loop-at-preserved : goal.loop-at-preserved
loop-at-preserved c =
    let s = c.in-Some.ensures.some in
    reached_more c.args.bytes.now c.args.from c.in-Some.at
    (reached_joined c.args.bytes.now c.args.from c.loop-at.place c.in-Some.at c.loop-at.invariant s.0) s.1
    (λ n v. let there = subst (BeginsVolume v.0 v.1) (sym c.bytes_from.ensures) v.2 in
    let p = c.in_default-verify_fv.ensures.only v.0 v.1 there in let q = c.in_default-verify_fv.is in cc)

pub returns-clause-none : goal.returns-clause-none
returns-clause-none c =
    from_joined c.args.bytes.now c.args.from c.loop-at.place c.loop-at.invariant.none c.in_default.ensures.none
