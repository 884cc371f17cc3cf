use Rattle.std.proofs.Common.{◌≢◌, []}
use Rattle.fv_base.proofs.Laws.{refl, sym, ap, ◌∙◌, arith, on_ok_weaker, inl, out_of_memory}
use Rattle.fv_base.specs.contracts.fault.FaultKind.{the_type}
use Rattle.fv_base.specs.declared.fault.Fault.{Fault}
use denote.Enum.Bare.{same_false}
use Rattle.fv_marks.specs.Words.{BodyLoses, StreamLoses}
use Rattle.fv_marks.proofs.MarkLemmas.{own_only}
use Rattle.fv_marks.proofs.PartLemmas.{only_length, only_none, only_then}
use Rattle.fv_marks.proofs.TreeStepLemmas.{data_stay, file_on, file_within, group_lost, only_on, opened_lost, section_on}
use Rattle.fv_marks.proofs.tree_marks.+marks.Goals as goal

-- ---- the body of a section

pub take_in_body-returns-in-Group-clause-lost : goal.take_in_body-returns-in-Group-clause-lost
take_in_body-returns-in-Group-clause-lost t c =
    rw c.in-Group.is (on_ok_weaker c.take_in_stream.result (group_lost c.args.left _ _ c.if-left-eq0.false) c.take_in_stream.ensures.lost)

pub take_in_body-returns-in-Volume-clause-lost : goal.take_in_body-returns-in-Volume-clause-lost
take_in_body-returns-in-Volume-clause-lost t c =
    rw c.in-Volume.is (on_ok_weaker c.take_in_volume.result (opened_lost c.args.left _ _ c.if-left-eq0.false) c.take_in_volume.ensures.lost)

-- ---- a stream

pub take_in_stream-returns-in_err-take_in_body-clause-only : goal.take_in_stream-returns-in_err-take_in_body-clause-only
take_in_stream-returns-in_err-take_in_body-clause-only t c =
    only_on _ _ _ c.loop-section.stream _ c.loop-section.invariant.0 c.in_err-take_in_body.ensures.only

pub take_in_stream-loop-section-preserved : goal.take_in_stream-loop-section-preserved
take_in_stream-loop-section-preserved t c =
    let is = c.in-Some.ensures.some in (
      only_on _ _ _ c.loop-section.stream _ c.loop-section.invariant.0 c.in_ok-take_in_body.ensures.only,
      section_on (BodyLoses c.args.left) c.args.stream.now c.loop-section.stream c.loop-section.at c.loop-section.invariant.1 c.in-Some.section is.0 _
          is.1 is.2 c.in_ok-take_in_body.ensures.lost,
    )

pub take_in_stream-returns-clause-lost : goal.take_in_stream-returns-clause-lost
take_in_stream-returns-clause-lost t c = c.loop-section.invariant.1 [] c.loop-section.stream (c.in_default.ensures.none, refl)

-- ---- the data of a file

pub take_in_data-returns-then-not-holds_sections-clause-lost : goal.take_in_data-returns-then-not-holds_sections-clause-lost
take_in_data-returns-then-not-holds_sections-clause-lost t c =
    data_stay (StreamLoses (BodyLoses c.args.left)) c.args.file.now.kind _ _ c.args.bytes.now
    (sym c.holds_sections.ensures ∙ c.if-not-holds_sections.true)

pub take_in_data-returns-clause-only : goal.take_in_data-returns-clause-only
take_in_data-returns-clause-only t c = only_on _ _ _ c.args.bytes.now _ (only_none _ _ refl) c.take_in_stream.ensures.only

-- ---- the files of a volume

pub take_in_files-take_in_data-requires : goal.take_in_files-take_in_data-requires
take_in_files-take_in_data-requires t c = (
  omega arith,
  file_within (StreamLoses (BodyLoses c.args.left)) c.args.bytes.now c.loop-file.bytes c.args.files.now c.loop-file.file-index c.loop-file-test.true
      (only_length _ _ c.loop-file.invariant.0) c.loop-file.invariant.1 c.requires.within,
)

pub take_in_files-returns-in_err-take_in_data-clause-only : goal.take_in_files-returns-in_err-take_in_data-clause-only
take_in_files-returns-in_err-take_in_data-clause-only t c = only_then _ _ _ c.loop-file.invariant.0 c.in_err-take_in_data.ensures.only

pub take_in_files-loop-file-preserved : goal.take_in_files-loop-file-preserved
take_in_files-loop-file-preserved t c = (
  only_then _ _ _ c.loop-file.invariant.0 c.in_ok-take_in_data.ensures.only,
  file_on (StreamLoses (BodyLoses c.args.left)) c.args.bytes.now c.loop-file.bytes c.args.files.now c.loop-file.file-index c.loop-file-test.true
      (only_length _ _ c.loop-file.invariant.0) c.loop-file.invariant.1 _ c.in_ok-take_in_data.ensures.lost,
)

-- ---- a volume

pub take_in_volume-returns-then-eq-clause-only : goal.take_in_volume-returns-then-eq-clause-only
take_in_volume-returns-then-eq-clause-only t c = own_only _ _ c.take_own_marks.ensures

pub take_in_volume-returns-in-Ok-clause-only : goal.take_in_volume-returns-in-Ok-clause-only
take_in_volume-returns-in-Ok-clause-only t c = only_then _ _ _ (own_only _ _ c.take_own_marks.ensures) c.take_in_files.ensures.only

pub take_in_volume-returns-else-eq-clause-lost : goal.take_in_volume-returns-else-eq-clause-lost
take_in_volume-returns-else-eq-clause-lost t c =
    let other = same_false the_type _ _ (sym c.if-eq.ensures) in
    let known : c.in-Err.fault ≢ out_of_memory = λ same. other (ap (λ (f : Fault). f.kind) same) in
    (_, c.take_own_marks.ensures, inl (c.in-Err.ensures.none known, refl))

pub take_in_volume-returns-else-eq-clause-only : goal.take_in_volume-returns-else-eq-clause-only
take_in_volume-returns-else-eq-clause-only t c = own_only _ _ c.take_own_marks.ensures
