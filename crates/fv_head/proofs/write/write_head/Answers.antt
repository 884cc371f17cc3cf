use Rattle.std.proofs.Common.{rules, ◌<◌, ◌^◌}
use Rattle.fv_base.proofs.Laws.{length, arith, Appends, on_ok_weaker, IfErr-weaker, WriteStops}
use Rattle.fv_head.specs.Words.{canonical_head}
use Rattle.fv_head.proofs.HeadImageLemmas.{canonical_is, length-canonical, header_len_most}
use Rattle.fv_head.proofs.write.write_head.Goals as goal

pub returns-clause-ok : goal.returns-clause-ok
returns-clause-ok g c =
    let h = c.args.head.now in
    on_ok_weaker {P = Appends _ _ (canonical_head h)} c.outcome.result
    (λ wrote. (canonical_head h, canonical_is h c.put_head.ensures.read, wrote)) (search rules)

pub returns-clause-err : goal.returns-clause-err
returns-clause-err g c =
    let h = c.args.head.now in
    let short : length (canonical_head h) < 2 ^ 64 =
    omega (arith, length-canonical h c.put_head.ensures.read, header_len_most h c.put_head.ensures.read) in
    IfErr-weaker c.outcome.result (WriteStops _ _ (canonical_head h)) _
    (λ f stops. (canonical_head h, canonical_is h c.put_head.ensures.read, stops)) (search rules)
