use Rattle.std.proofs.Common.{List, length, sym, ap, ◌∙◌, arith}
use Rattle.fv_survey.specs.declared.portion.Reading.TheVariants as readings
use Rattle.fv_survey.specs.declared.row.RowKind.TheVariants as kinds
use Rattle.fv_survey.specs.declared.section_step.SectionPlace.{SectionPlace}
use Rattle.fv_survey.specs.Words.{PortionForm, ahead, cut, inside, none, place_findings, portion_form, stack}
use Rattle.fv_survey.specs.inner.Fitting.{body_at_place}
use Rattle.fv_survey.proofs.RuleLaws.{section_lies}
use Rattle.fv_survey.proofs.SectionLaws.{four_same, section_inside}
use Rattle.fv_survey.proofs.section_step.section_step.Goals as goal

pub cut-requires-clause-order : goal.cut-requires-clause-order
cut-requires-clause-order c =
    omega (arith, c.requires.place.next, (section_lies c.args.sections.bytes.now c.requires.place.begins).within)

pub cut-requires-2-clause-order : goal.cut-requires-2-clause-order
cut-requires-2-clause-order c =
    omega (arith, c.requires.place.size, c.requires.place.next, (section_lies c.args.sections.bytes.now c.requires.place.begins).next)

pub cut-requires-2-clause-within : goal.cut-requires-2-clause-within
cut-requires-2-clause-within c =
    omega (arith, c.requires.place.next, (section_lies c.args.sections.bytes.now c.requires.place.begins).within)

pub returns-clause-inside : goal.returns-clause-inside
returns-clause-inside c =
    let p : PortionForm = portion_form c.args.sections in
    let s : SectionPlace = c.args.section in
    let l : List PortionForm = stack c.args.portions.now.items in
    c.in_ok-put-4.ensures.put ∙ ap (ahead (portion_form c.cut-3.result)) (c.in_ok-put-3.ensures.put
    ∙ ap (ahead (portion_form c.body_portion.result)) (c.in_ok-put-2.ensures.put
    ∙ ap (ahead (portion_form c.cut-2.result)) c.in_ok-put.ensures.put))
    ∙ four_same (portion_form c.cut-3.result) (portion_form c.body_portion.result) (portion_form c.cut-2.result) (portion_form c.cut.result)
    (cut (readings.Leaf kinds.SectionHeader none) (inside p.nest) 0 s.header p) (body_at_place (inside p.nest) s p)
    (cut (readings.Leaf kinds.Filler none) p.nest s.size s.next p)
    (cut (readings.Sections (place_findings s.next (length p.bytes))) p.nest s.next (length p.bytes) p) l
    (c.cut-3.ensures ∙ ap (λ n. cut (readings.Leaf kinds.SectionHeader none) n 0 s.header p) c.inside.ensures)
    c.body_portion.ensures c.cut-2.ensures
    (c.cut.ensures ∙ ap (λ f. cut (readings.Sections f) p.nest s.next (length p.bytes) p) c.place_findings-place.ensures)
    ∙ sym (section_inside p s l c.requires.place)
