use Rattle.std.proofs.Common.{◌≡◌, ℕ, List, length, true, sym, ap, ◌∙◌, arith}
use Rattle.fv_base.proofs.Laws.{IfOk-weaker}
use Rattle.fv_survey.specs.declared.portion.Nesting.{Nesting}
use Rattle.fv_survey.specs.declared.portion.Reading.{Reading}
use Rattle.fv_survey.specs.declared.portion.Reading.TheVariants as readings
use Rattle.fv_survey.specs.declared.row.Row.{Row}
use Rattle.fv_survey.specs.Words.{PortionForm, ahead, cut, first_start, found_volume, portion_form, row_of, run_after, run_inside}
use Rattle.fv_survey.specs.Words.{run_row, searched, stack, volume_end, volume_inside, volume_said}
use Rattle.fv_survey.proofs.RuleLaws.{start_long}
use Rattle.fv_survey.proofs.RunLaws.{row_found, run_deep, run_found}
use Rattle.fv_survey.proofs.volume_step.run_step.Goals as goal
use Rattle.fv_survey.proofs.volume_step.run_step.Goals.{After-volume_step}

pub returns-then-run-eq0-clause-inside : goal.returns-then-run-eq0-clause-inside
returns-then-run-eq0-clause-inside c =
    sym (run_deep c.args.kind (portion_form c.args.run) (stack c.args.portions.now.items)
    (omega (arith, c.first_start-start.ensures.is, c.if-start-gt0.false)) (omega (arith, c.if-run-eq0.true)))

pub volume_end-size-requires : goal.volume_end-size-requires
volume_end-size-requires c =
    start_long c.args.run.bytes.now c.requires.fits.0 (omega (arith, c.first_start-start.ensures.is, c.if-start-gt0.false))

-- the volume that was found
is_found : (c : After-volume_step) → portion_form c.cut-volume.result ≡ found_volume (portion_form c.args.run)
is_found c =
    c.cut-volume.ensures ∙ (ap (λ (n : Nesting). cut readings.Volume n 0 c.volume_end-size.result (portion_form c.args.run)) c.searched.ensures
    ∙ ap (λ (n : ℕ). cut readings.Volume (searched c.args.run.nest) 0 n (portion_form c.args.run)) c.volume_end-size.ensures.is)

-- the bytes after the volume
is_after : (c : After-volume_step) → portion_form c.cut-2.result
    ≡ cut (readings.Run c.args.kind) c.args.run.nest (volume_end c.args.run.bytes.now) (length c.args.run.bytes.now) (portion_form c.args.run)
is_after c =
    c.cut-2.ensures
    ∙ (ap (λ (n : ℕ). cut c.args.run.reading c.args.run.nest n (length c.args.run.bytes.now) (portion_form c.args.run)) c.volume_end-size.ensures.is
    ∙ ap (λ (r : Reading). cut r c.args.run.nest (volume_end c.args.run.bytes.now) (length c.args.run.bytes.now) (portion_form c.args.run)) c.requires.reading)

at_start : (c : After-volume_step) → first_start c.args.run.bytes.now ≡ 0
at_start c = omega (arith, c.first_start-start.ensures.is, c.if-start-gt0.false)

pub returns-clause-row : goal.returns-clause-row
returns-clause-row c =
    let p : PortionForm = portion_form c.args.run in
    let q : PortionForm = portion_form c.cut-volume.result in
    IfOk-weaker c.volume_step.result (λ (r : Row). r ≡ row_of (volume_said true q.bytes) (length q.bytes) q) (λ (r : Row). r ≡ run_row c.args.kind p)
    (λ _ e. e ∙ row_found c.args.kind p q (is_found c) (at_start c) (omega (arith, c.if-run-eq0.false))
    (start_long p.bytes c.requires.fits.0 (at_start c))) c.volume_step.ensures.row

pub returns-clause-inside : goal.returns-clause-inside
returns-clause-inside c =
    let p : PortionForm = portion_form c.args.run in
    let q : PortionForm = portion_form c.cut-volume.result in
    let old : List PortionForm = stack c.args.portions.now.items in
    let rest : PortionForm = cut (readings.Run c.args.kind) p.nest (volume_end p.bytes) (length p.bytes) p in
    let more : stack c.put-2.new.portions.items ≡ ahead rest old =
    c.in_ok-put-2.ensures.put ∙ ap (λ (x : PortionForm). ahead x old) (is_after c) in
    IfOk-weaker c.volume_step.result
    (λ (_ : Row). stack c.volume_step.new.portions.items ≡ volume_inside q (stack c.put-2.new.portions.items))
    (λ (_ : Row). stack c.volume_step.new.portions.items ≡ run_inside p (run_after c.args.kind p old))
    (λ _ e. e ∙ (ap (λ (x : PortionForm). volume_inside x (stack c.put-2.new.portions.items)) (is_found c)
    ∙ (ap (volume_inside (found_volume p)) more
    ∙ sym (run_found c.args.kind p old (at_start c) (omega (arith, c.if-run-eq0.false)))))) c.volume_step.ensures.inside
