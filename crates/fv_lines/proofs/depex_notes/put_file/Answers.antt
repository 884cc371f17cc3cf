use Rattle.std.proofs.Common.{[], ◌∙◌, refl}
use Rattle.fv_base.proofs.Laws.{flat_map}
use Rattle.fv_lines.specs.Words.{section_depex}
use Rattle.fv_lines.proofs.DepexNoteLemmas.{of_file, puts_then}
use Rattle.fv_lines.proofs.depex_notes.put_file.Goals as goal

pub returns-in-Plain : goal.returns-in-Plain
returns-in-Plain g c = rw (of_file c.args.file.now, ← c.content.ensures, c.in-Plain.is) ([], refl, g.S.Sink.laws.none _)

pub loop-section-init : goal.loop-section-init
loop-section-init g c = (tt, tt, λ end puts. puts)

pub loop-section-preserved : goal.loop-section-preserved
loop-section-preserved g c = (
  tt,
  tt,
  λ end puts.
      let name = c.name-name.result in
      c.loop-section.invariant.2 end (rw c.in-Some.ensures.steps (puts_then g.S.Sink.laws (section_depex name c.in-Some.section)
      (flat_map (section_depex name) c.next.new.self) _ _ _ c.put_section.ensures puts)),
)

pub returns : goal.returns
returns g c =
    rw (of_file c.args.file.now, ← c.name-name.ensures.name, ← c.into_iter-section-iterator.ensures.into_iter_gives ∙ c.of-section-items.ensures)
    (c.loop-section.invariant.2 c.loop-section.out (rw c.in-None.ensures.steps.0 ([], refl, g.S.Sink.laws.none _)))
