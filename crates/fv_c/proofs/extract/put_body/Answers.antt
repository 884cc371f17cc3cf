use Rattle.std.proofs.lemmas.Grind.{common_steps}
use Rattle.std.proofs.Common.{◌∙◌, ap, arith, length, sym}
use Rattle.fv_canon.proofs.Laws.{body_one}
use Rattle.fv_c.proofs.extract.put_body.Goals as goal

pub returns-clause-ok : goal.returns-clause-ok
returns-clause-ok c =
    let (bytes, is, long) = c.in_ok-starts.ensures.long in
    let (out, put, takes) = c.put_laid_body.ensures in
    let same = c.body_len-total.ensures ∙ sym (ap length (body_one _ out bytes put is) ∙ long) in
    (out, put, same, grind (arith, common_steps))
