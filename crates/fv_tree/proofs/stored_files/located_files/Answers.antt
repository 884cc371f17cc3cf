use Rattle.std.proofs.Common.{arith}
use Rattle.std.proofs.lemmas.Grind.{common_steps}
use Rattle.fv_base.proofs.Laws.{map, ap, err_is, First}
use Rattle.fv_base.specs.declared.fault.Fault.{Fault}
use Rattle.fv_head.proofs.Laws.{fault_known, first_lies}
use Rattle.fv_tree.specs.Words.{file_form}
use Rattle.fv_tree.proofs.FilledLaws.{stands}
use Rattle.fv_tree.proofs.LocatedLaws.{begun_data, located_stand, one_files}
use Rattle.fv_tree.proofs.RefusalLaws.{files_refused}
use Rattle.fv_tree.proofs.stored_files.located_files.Goals as goal

-- the files are the files of the volume that the bytes begin with, and their data are cut out of all bytes
pub returns-clause-found : goal.returns-clause-found
returns-clause-found c =
    let front = c.in_ok-extent.ensures.found in
    (_, _, front.1, stands c.args.bytes.now _ _ c.in_ok-files.files.items front.1 c.in_ok-files.ensures.read)

pub returns-in_err-files-clause-none : goal.returns-in_err-files-clause-none
returns-in_err-files-clause-none c =
    rw (err_is c.from_residual-in_err-files.ensures.1) (λ ne gs begins. files_refused First c.in_ok-extent.extent _ _ _ gs
    (c.in_err-files.ensures.read ne) (located_stand c.args.bytes.now _ _ c.in_ok-extent.ensures.found.1 gs begins))

pub returns-clause-data : goal.returns-clause-data
returns-clause-data c = begun_data c.args.bytes.now (map (file_form c.args.bytes.now) c.in_ok-files.files.items) (returns-clause-found c)

pub returns-clause-only : goal.returns-clause-only
returns-clause-only c = λ gs begins. one_files c.args.bytes.now _ gs (returns-clause-found c) begins

pub returns-in_err-extent-clause-memory : goal.returns-in_err-extent-clause-memory
returns-in_err-extent-clause-memory c =
    rw (err_is c.from_residual.ensures.1)
    (λ want. absurd (fault_known c.args.bytes.now _ c.in_err-extent.ensures.first (ap (λ (f : Fault). f.kind) want)))

pub returns-in_err-files-clause-memory : goal.returns-in_err-files-clause-memory
returns-in_err-files-clause-memory c =
    rw (err_is c.from_residual-in_err-files.ensures.1) (λ want. (_, _, c.in_ok-extent.ensures.found.1))

pub files_in_body-requires-clause-first_multiple : goal.files_in_body-requires-clause-first_multiple
files_in_body-requires-clause-first_multiple c =
    (first_lies c.args.bytes.now _ _ c.in_ok-extent.ensures.found.1).0

pub files_in_body-requires-clause-first_within : goal.files_in_body-requires-clause-first_within
files_in_body-requires-clause-first_within c =
    let lies = first_lies c.args.bytes.now _ _ c.in_ok-extent.ensures.found.1 in grind (arith, common_steps, lies)
