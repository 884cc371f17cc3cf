use Rattle.std.proofs.lemmas.Grind.{common_steps}
use Rattle.std.proofs.Common.{rules, ◌∙◌, ap, arith, sym}
use Rattle.fv_head.specs.Words.{HeadFields}
use Rattle.fv_tree.specs.Words.{volumes_in}
use Rattle.fv_canon.proofs.Laws.{image_length, laid_fit}
use Rattle.fv_c.proofs.extract.put_volume.Goals as goal

pub returns-then-buffer-total-clause-ok : goal.returns-then-buffer-total-clause-ok
returns-then-buffer-total-clause-ok c =
    let m = c.args.volume.now in
    let fit = laid_fit (volumes_in m) _ c.in_ok-places.ensures.layout.0 in
    let (image, is) = (c.what_fits_has_an_image.ensures m c.head.ensures.meaning).0 fit in
    let same = c.length-total.ensures ∙ ap (λ (h : HeadFields). h.length) c.head.ensures.head ∙ sym (image_length m image is) in
    (image, is, same, search rules)

pub returns-clause-ok : goal.returns-clause-ok
returns-clause-ok c =
    let (image, is, takes) = c.put_canonical.ensures in
    let same = c.length-total.ensures ∙ ap (λ (h : HeadFields). h.length) c.head.ensures.head ∙ sym (image_length _ image is) in
    (image, is, same, grind (arith, common_steps))
