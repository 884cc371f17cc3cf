use Rattle.std.proofs.Common.{◌<◌, ℕ, ◌∙◌, ap, length, arith}
use Rattle.fv_base.proofs.Laws.{length-map, outer_fault, seam_items, common_steps}
use Rattle.fv_names.proofs.Laws.{no_named}
use Rattle.fv_tree.specs.Words.{file_form}
use Rattle.fv_tree.proofs.NamedLaws.{front_twins, no_file, twin_after}
use Rattle.fv_base.specs.declared.fault.FaultKind.TheVariants as kinds
use Rattle.fv_tree.proofs.volume_files.check_twins.Goals as goal

pub returns-then-first-files-clause-first : goal.returns-then-first-files-clause-first
returns-then-first-files-clause-first c = λ b.
    let n : ℕ = c.first_twin-first.result in
    let l : n < length c.args.files.now = c.if-first-files.true in
    let none = front_twins b n c.args.files.now c.first_twin-first.ensures.none in
    let twin = twin_after b n c.args.files.now l (c.first_twin-first.ensures.first l no_named) in
    let same = c.outer.ensures ∙ ap (outer_fault kinds.DuplicateName) c.from-offset.ensures in
    (_, (_, _, seam_items (file_form b) c.args.files.now n no_file l, none, twin), same)

pub returns-clause-found : goal.returns-clause-found
returns-clause-found c = grind (arith, common_steps, length-map) steps 150000
