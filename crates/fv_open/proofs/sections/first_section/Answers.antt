use Rattle.fv_open.proofs.StreamLemmas.{begun, fits_first, none_begun, not_begun, read_first}
use Rattle.fv_open.proofs.sections.first_section.Goals as goal

pub returns-in-Ok-Some-clause-begins : goal.returns-in-Ok-Some-clause-begins
returns-in-Ok-Some-clause-begins c =
    let stands = rw c.in-Ok-Some.field-0-is at c.in-Ok-Some.ensures.found in
    begun _ c.args.bytes.now stands.rest stands.begins

pub returns-in-Ok-Some-clause-frame : goal.returns-in-Ok-Some-clause-frame
returns-in-Ok-Some-clause-frame c = read_first c.args.bytes.now _ (rw c.in-Ok-Some.field-0-is at c.in-Ok-Some.ensures.found)

pub returns-in-Ok-None-clause-none : goal.returns-in-Ok-None-clause-none
returns-in-Ok-None-clause-none c = none_begun c.args.bytes.now (rw c.in-Ok-None.field-0-is at c.in-Ok-None.ensures.past)

pub returns-in-Err-clause-none : goal.returns-in-Err-clause-none
returns-in-Err-clause-none c = not_begun 0 c.args.bytes.now c.in-Err.field-0 c.in-Err.ensures.first

pub returns-in-Ok-Some-clause-within : goal.returns-in-Ok-Some-clause-within
returns-in-Ok-Some-clause-within c =
    let stands = rw c.in-Ok-Some.field-0-is at c.in-Ok-Some.ensures.found in
    fits_first _ c.args.bytes.now stands.rest stands.begins
