use Rattle.std.proofs.Common.{◌≡◌, map, take}
use Rattle.fv_c.proofs.translate.translate_all.Given as goal

abbrev pub invariant-loop-value : goal.invariant-loop-value
invariant-loop-value g l = l.translated.items ≡ map g.T.Translate.translated (take l.value-index l.list)
