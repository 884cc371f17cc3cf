use Rattle.fv_base.proofs.Laws.{arith, common_steps, IfOk-weaker, kept_whole}
use Rattle.fv_canon.specs.Words.{IsImage}
use Rattle.fv_canon.proofs.ImageLaws.{image_accepted}
use Rattle.fv_canon.proofs.HeadlineLaws.{one_meaning_of}
use Rattle.fv_canon.proofs.OneImageLaws.{image_one}
use Rattle.fv_canon.proofs.canonical_image.canonical.Goals as goal

pub returns-clause-image : goal.returns-clause-image
returns-clause-image c = grind (arith, common_steps, IfOk-weaker, kept_whole) steps 400000

pub returns-clause-only : goal.returns-clause-only
returns-clause-only c other image = grind (arith, common_steps, IfOk-weaker, image_one, returns-clause-image) steps 400000

pub returns-clause-denotes : goal.returns-clause-denotes
returns-clause-denotes c =
    let m = c.args.view.now in
    IfOk-weaker c.finish.result (IsImage m) _ (λ bytes is. image_accepted m bytes c.head.ensures.meaning is) (returns-clause-image c)

pub returns-clause-meaning : goal.returns-clause-meaning
returns-clause-meaning c =
    let m = c.args.view.now in
    IfOk-weaker c.finish.result (IsImage m) _
    (λ bytes is n some image. one_meaning_of m n bytes c.head.ensures.meaning some is image) (returns-clause-image c)
