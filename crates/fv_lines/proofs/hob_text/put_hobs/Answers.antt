use Rattle.std.proofs.Common.{refl}
use Rattle.fv_lines.specs.Words.{HobLines, held_image, hob_line}
use Rattle.fv_text.proofs.Laws.{tells_all, tells_more, tells_none}
use Rattle.fv_lines.proofs.hob_text.put_hobs.Goals as goal

pub loop-hob-init : goal.loop-hob-init
loop-hob-init g c = tells_none g.S.Sink.laws (λ _. HobLines (held_image c.args.image)) c.args.hobs.now c.args.out.now

pub loop-hob-preserved : goal.loop-hob-preserved
loop-hob-preserved g c =
    tells_more g.S.Sink.laws c.hob-item.result (hob_line c.code.result c.length.result c.word_of.result.now) c.loop-hob-test.true
    (λ rest more. rw (← c.hob-item.is) (c.word_of.result.now, rest, c.word_of.ensures, rw (c.code.ensures, c.length.ensures), more))
    c.loop-hob.invariant c.put_hob.ensures

pub returns : goal.returns
returns g c =
    let (lines, told, put) = tells_all refl c.loop-hob-test.false c.loop-hob.invariant in
    (_, (lines, told, refl), g.S.Sink.laws.joined put c.put_consumed.ensures)
