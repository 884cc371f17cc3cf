use Rattle.std.proofs.lemmas.Grind.{common_steps}
use Rattle.std.proofs.Common.{◌∙◌, ap, arith, length, sym}
use Rattle.fv_canon.proofs.Laws.{begin_all, data_one}
use Rattle.fv_c.proofs.extract.put_data.Goals as goal

pub put_laid_data-requires : goal.put_laid_data-requires
put_laid_data-requires c = rw c.as_slice.ensures.value (begin_all _ c.in_ok-starts.starts.items c.in_ok-starts.ensures.ok)

pub returns-clause-ok : goal.returns-clause-ok
returns-clause-ok c =
    let (bytes, is, long) = c.in_ok-starts.ensures.long in
    let (out, put, takes) = c.put_laid_data.ensures in
    let same = c.data_len-total.ensures ∙ sym (ap length (data_one _ out bytes put is) ∙ long) in
    (out, put, same, grind (arith, common_steps))
