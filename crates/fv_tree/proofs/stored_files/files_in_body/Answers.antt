use Rattle.std.proofs.Common.{length, arith, ap, inl, inr}
use Rattle.std.proofs.lemmas.List.{length-drop, length-map}
use Rattle.fv_file.proofs.Laws.{cells_few}
use Rattle.fv_head.specs.declared.extent.Extent.{Extent}
use Rattle.fv_tree.proofs.FileCountLaws.{files_few}
use Rattle.fv_tree.proofs.BodyLaws.{cells_inside, files_stored}
use Rattle.fv_tree.proofs.FaultPlaceLaws.{stopped_within}
use Rattle.fv_base.proofs.Laws.{err_is, common_steps}
use Rattle.fv_tree.proofs.stored_files.files_in_body.Goals as goal

pub fault_within-requires : goal.fault_within-requires
fault_within-requires c =
    omega (arith, stopped_within c.args.extent c.args.volume.now c.requires.first_within _ (λ ne. inl (c.in-Err.ensures.first ne)), c.requires.place)

pub current_files-requires : goal.current_files-requires
current_files-requires c =
    let e : Extent = c.args.extent in
    let (cs, tiles, files) = c.in-Ok.ensures.found in
    let few = cells_few e.file_system e.polarity e.first cs _ tiles in
    omega (arith, simp length-map at (ap length files), files_few cs, few, length-drop e.first c.args.volume.now, c.requires.small)

pub fault_within-requires-in-Err-current_files : goal.fault_within-requires-in-Err-current_files
fault_within-requires-in-Err-current_files c =
    let (cs, tiles, files) = c.in-Ok.ensures.found in
    let low = stopped_within c.args.extent c.args.volume.now c.requires.first_within c.in-Err-current_files.fault
    (λ ne. inr (cs, tiles, rw files at (c.in-Err-current_files.ensures.first ne c.args.volume.now))) in
    omega (arith, low, c.requires.place)

pub returns-clause-stored : goal.returns-clause-stored
returns-clause-stored c = grind (arith, common_steps, files_stored, cells_inside) steps 150000

pub returns-clause-read : goal.returns-clause-read
returns-clause-read c =
    let (cs, tiles, files) = c.in-Ok.ensures.found in
    record { cells = cs; tiles = tiles; current = rw files at (c.in-Ok-current_files.ensures.found c.args.volume.now) }

pub returns-in-Err-clause-read : goal.returns-in-Err-clause-read
returns-in-Err-clause-read c = λ ne.
    let w = c.fault_within.ensures.moved ne in (c.in-Err.fault, inl (c.in-Err.ensures.first w.0), w.1)

pub returns-in-Err-current_files-clause-read : goal.returns-in-Err-current_files-clause-read
returns-in-Err-current_files-clause-read c = λ ne.
    let (cs, tiles, files) = c.in-Ok.ensures.found in
    let w = c.fault_within-in-Err-current_files.ensures.moved ne in
    (c.in-Err-current_files.fault, inr (cs, tiles, rw files at (c.in-Err-current_files.ensures.first w.0 c.args.volume.now)), w.1)

pub returns-clause-order : goal.returns-clause-order
returns-clause-order c =
    record { entries = _; index = c.in-Ok-current_files.ensures.index; are_numbers = c.in_ok-order.ensures.found }

pub returns-in_err-order-clause-read : goal.returns-in_err-order-clause-read
returns-in_err-order-clause-read c = rw (err_is c.from_residual.ensures.1) (λ ne. absurd (ne c.in_err-order.ensures.err))
