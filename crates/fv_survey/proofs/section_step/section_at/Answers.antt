use Rattle.std.proofs.Common.{◌+◌, ℕ, List, length, sym, ap, ◌∙◌, subst, IfSome}
use Rattle.fv_section.specs.Words.{frame_form, HasFrameAt}
use Rattle.fv_survey.specs.Words.{body_form, kind_at, next_section}
use Rattle.fv_survey.proofs.SectionLaws.{begun, faulty}
use Rattle.fv_survey.proofs.section_step.section_at.Goals as goal

pub returns-in-Ok-Some-clause-found : goal.returns-in-Ok-Some-clause-found
returns-in-Ok-Some-clause-found c =
    let b : List ℕ = c.args.rest.now in
    let s = begun (frame_form c.in-Ok-Some.frame) b (subst (λ o. IfSome o (λ f. HasFrameAt (frame_form f) 0 b)) c.in-Ok-Some.field-0-is c.in-Ok-Some.ensures.found) in
    record {
      begins = s.begins;
      header = c.section_header_len-header.ensures ∙ sym s.header;
      size = ap (λ (n : ℕ). n + length c.in-Ok-Some.frame.body.now) c.section_header_len-header.ensures ∙ sym s.size;
      code = sym s.kind;
      form = c.of.ensures ∙ sym (ap (λ (k : ℕ). body_form k (frame_form c.in-Ok-Some.frame).body) s.kind) ∙ sym (ap (body_form (kind_at b)) s.body);
      next = c.next_section.ensures ∙ ap (λ (n : ℕ). next_section n b) (ap (λ (n : ℕ). n + length c.in-Ok-Some.frame.body.now) c.section_header_len-header.ensures ∙ sym s.size);
    }

pub returns-in-Err-clause-none : goal.returns-in-Err-clause-none
returns-in-Err-clause-none c =
    let s = faulty c.in-Err.fault c.args.rest.now c.in-Err.ensures.first in
    (s.none, c.of-in-Err.ensures ∙ s.why)
