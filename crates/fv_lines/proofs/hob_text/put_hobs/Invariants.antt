use Rattle.fv_lines.specs.Words.{HobLines, held_image}
use Rattle.fv_text.proofs.Laws.{Tells}
use Rattle.fv_lines.proofs.hob_text.put_hobs.Given as goal

abbrev pub invariant-loop-hob : goal.invariant-loop-hob
invariant-loop-hob g l = Tells g.S.Sink.takes (λ _. HobLines (held_image l.image)) l.hobs l.hob-index l.initial.out l.out
