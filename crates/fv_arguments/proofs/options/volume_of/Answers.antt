use Rattle.fv_arguments.proofs.RefusalLemmas.{passed}
use Rattle.fv_arguments.proofs.options.volume_of.Goals as goal

pub returns-in_err-volume_offset_of : goal.returns-in_err-volume_offset_of
returns-in_err-volume_offset_of c =
    passed _ _ _ _ c.from_residual-in_err-volume_offset_of.ensures.1 c.in_err-volume_offset_of.ensures (λ volume h. (volume.at, h.1))
