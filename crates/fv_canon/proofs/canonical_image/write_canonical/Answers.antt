use Rattle.std.proofs.Common.{rules, ◌<◌, ◌^◌, length, arith}
use Rattle.fv_base.proofs.Laws.{common_steps, on_ok_weaker, IfErr-weaker, WriteStops}
use Rattle.fv_canon.proofs.ImageLaws.{length_limit}
use Rattle.fv_canon.proofs.OneImageLaws.{image_length}
use Rattle.fv_canon.proofs.canonical_image.write_canonical.Goals as goal

pub returns-clause-ok : goal.returns-clause-ok
returns-clause-ok g c = grind (arith, common_steps, on_ok_weaker) steps 400000

pub returns-clause-err : goal.returns-clause-err
returns-clause-err g c =
    let m = c.args.view.now in
    let put = c.put_canonical.ensures in
    let short : length put.0 < 2 ^ 64 = omega (arith, image_length m put.0 put.1, length_limit m c.known.ensures) in
    IfErr-weaker c.outcome.result (WriteStops _ _ put.0) _ (λ f stops. (put.0, put.1, stops)) (search rules)
