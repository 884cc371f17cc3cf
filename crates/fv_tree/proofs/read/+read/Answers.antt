use Rattle.std.proofs.Common.{◌≡◌, ℕ, [], ◌∷◌, ◌++◌, rules, length, take, sym, ap, ◌∙◌, subst, arith, inl, inr, refl, length-take-le}
use Rattle.fv_base.proofs.Laws.{IfErr-weaker, First, bytes_take, err_is, first_only, common_steps}
use Rattle.std.proofs.lemmas.Result.{MatchResult-from_both, MatchResult-weaker}
use Rattle.fv_base.specs.declared.fault.Fault.{Fault}
use Rattle.fv_base.specs.declared.fault.Place.{Place}
use Rattle.fv_head.proofs.Laws.{fault_known, front_lies, first_lies}
use Rattle.fv_section.specs.Words.{FrameForm}
use Rattle.fv_tree.specs.inner.ReadingParts.{IsReadyFile}
use Rattle.fv_tree.specs.Words.{Denotes, MeansFile, Stream, FileFault, InStream, data_at, Volume, length_of, files_from, bare_form}
use Rattle.fv_tree.specs.Words.{file_form, with_data}
use Rattle.fv_tree.proofs.BodyLaws.{files_first}
use Rattle.fv_tree.proofs.FilledLaws.{stands}
use Rattle.fv_tree.proofs.ListPairs.{of_item, kept_pairs, first_refused, all_pairs}
use Rattle.fv_tree.proofs.NamedLaws.{no_file, read_names}
use Rattle.fv_tree.proofs.SectionShapeLaws.{frame_small, group_shape, volume_shape, group_first, one_place, nested_first, deep_fault}
use Rattle.fv_tree.proofs.FaultKindLaws.{frame_known}
use Rattle.fv_tree.proofs.StreamWalkLaws.{walk_ready, walk_begun, walk_more, walk_first, walk_found, walk_some}
use Rattle.fv_tree.proofs.VolumePartLaws.{made, head_first, opened_whole}
use Rattle.fv_tree.proofs.read.+read.Goals.{read_with_files-In_ok-views}
use Rattle.fv_tree.proofs.SectionReadLaws.{leaf_read, group_read, volume_read, plain_read, sectioned_read}
use Rattle.fv_tree.proofs.read.+read.Goals as goal
use Rattle.fv_section.specs.Words as framed

-- ---- files

pub read_files-returns-in_err-views : goal.read_files-returns-in_err-views
read_files-returns-in_err-views t c = rw (err_is c.from_residual.ensures.1) (λ ne. absurd (ne refl))

pub read_files-loop-file-init : goal.read_files-loop-file-init
read_files-loop-file-init t c = rw c.in_ok-views.ensures.items tt

pub read_files-bounds-files-file-index : goal.read_files-bounds-files-file-index
read_files-bounds-files-file-index t c = c.loop-file-test.true

pub read_files-read_file-requires : goal.read_files-read_file-requires
read_files-read_file-requires t c = (
  omega arith,
  (
    c.requires.depth,
    of_item (MeansFile (Stream c.args.at.left)) (file_form c.args.volume.now) c.args.files.now _ no_file
        (IsReadyFile c.args.at.place.offset) c.requires.stored c.loop-file-test.true,
  ),
)

pub read_files-returns-in_err-view : goal.read_files-returns-in_err-view
read_files-returns-in_err-view t c =
    rw (err_is c.from_residual-in_err-view.ensures.1) (λ ne. first_refused (MeansFile (Stream c.args.at.left)) (file_form c.args.volume.now)
    c.args.files.now c.loop-file.file-index no_file (λ f. FileFault (InStream First c.args.at.left) c.in_err-view.field-0.0 f c.args.at.place)
    c.loop-file.views.items c.loop-file-test.true c.loop-file.invariant (c.in_err-view.ensures ne))

pub read_files-returns-in_err-push : goal.read_files-returns-in_err-push
read_files-returns-in_err-push t c = rw (err_is c.from_residual-in_err-push.ensures.1) (λ ne. absurd (ne refl))

pub read_files-loop-file-preserved : goal.read_files-loop-file-preserved
read_files-loop-file-preserved t c =
    let items : c.push.new.self.items ≡ c.loop-file.views.items ++ c.in_ok-view.view ∷ [] = search rules in
    kept_pairs (MeansFile (Stream c.args.at.left)) (file_form c.args.volume.now) c.args.files.now c.loop-file.file-index no_file c.loop-file.views.items
    c.push.new.self.items c.in_ok-view.view c.loop-file-test.true c.loop-file.invariant c.in_ok-view.ensures items

pub read_files-returns : goal.read_files-returns
read_files-returns t c = grind (arith, common_steps, all_pairs, no_file) steps 150000

-- ---- one file

pub read_data-returns-then-not-holds_sections : goal.read_data-returns-then-not-holds_sections
read_data-returns-then-not-holds_sections t c = grind (arith, common_steps, plain_read) steps 150000

pub read_data-overflow_add-place : goal.read_data-overflow_add-place
read_data-overflow_add-place t c = omega (arith, c.from.ensures, c.requires.place)

pub read_data-overflow_add-place-2 : goal.read_data-overflow_add-place-2
read_data-overflow_add-place-2 t c = omega (arith, c.from.ensures, c.header_len.ensures.is, c.requires.place)

pub read_data-read_stream-requires : goal.read_data-read_stream-requires
read_data-read_stream-requires t c = omega (arith, c.from.ensures, c.header_len.ensures.is, c.requires)

pub read_data-returns-in_err-read_stream : goal.read_data-returns-in_err-read_stream
read_data-returns-in_err-read_stream t c =
    let P : Place → Type 0 = λ i. InStream First c.args.at.left c.in_err-read_stream.field-0.0 c.args.payload.now i in
    let same = one_place _ (data_at c.args.at.place (with_data c.args.payload.now (bare_form c.args.file.now))) (omega arith) refl in
    rw (err_is c.from_residual.ensures.1)
    (λ ne. (sym c.holds_sections.ensures ∙ c.if-not-holds_sections.false, subst P same (c.in_err-read_stream.ensures.read ne)))

pub read_data-returns : goal.read_data-returns
read_data-returns t c = grind (arith, common_steps, sectioned_read) steps 150000

pub read_file-read_data-requires : goal.read_file-read_data-requires
read_file-read_data-requires t c = grind (arith, common_steps) steps 150000

pub read_file-new-requires-clause-stored : goal.read_file-new-requires-clause-stored
read_file-new-requires-clause-stored t c = rw c.payload-payload.ensures c.requires.ready.0

pub read_file-returns : goal.read_file-returns
read_file-returns t c =
    MatchResult-from_both c.new.result _ _ (rw c.payload-payload.ensures at c.new.ensures.ok)
    (IfErr-weaker c.new.result _ _ (λ e is ne. absurd (ne is)) c.new.ensures.err)

pub read_file-returns-in_err-volumes : goal.read_file-returns-in_err-volumes
read_file-returns-in_err-volumes t c =
    rw (err_is c.from_residual.ensures.1) (λ ne. rw c.payload-payload.ensures at (c.in_err-volumes.ensures ne))

-- ---- a volume

pub read_with_files-fault_within-requires : goal.read_with_files-fault_within-requires
read_with_files-fault_within-requires t c = omega (arith, c.in-Err.ensures.bound, c.requires.place)

pub read_with_files-returns-in-Err-clause-read : goal.read_with_files-returns-in-Err-clause-read
read_with_files-returns-in-Err-clause-read t c = λ ne.
    head_first c.args.at.left _ c.in-Err.fault _ _ c.in-Err.ensures.first (c.fault_within.ensures.moved ne).0 (c.fault_within.ensures.moved ne).1

pub read_with_files-returns-in-Err-clause-memory : goal.read_with_files-returns-in-Err-clause-memory
read_with_files-returns-in-Err-clause-memory t c = λ want. c.in-Err.ensures.memory (first_only c.in-Err.ensures.first
    (λ first. fault_known c.args.bytes.now _ first (sym c.fault_within.ensures.kind ∙ ap (λ (f : Fault). f.kind) want)))

pub read_with_files-slice_bounds-volume-end : goal.read_with_files-slice_bounds-volume-end
read_with_files-slice_bounds-volume-end t c = sym (length-take-le c.in-Ok.read.1.length c.args.bytes.now c.in-Ok.ensures.found.is_within)

pub read_with_files-files_in_body-requires : goal.read_with_files-files_in_body-requires
read_with_files-files_in_body-requires t c =
    let found = c.in-Ok.ensures.found in
    let long = length-take-le _ c.args.bytes.now found.is_within in
    omega (arith, long, found.is_within, front_lies c.args.bytes.now _ _ found, first_lies c.args.bytes.now _ _ found)

pub read_with_files-read_files-requires : goal.read_with_files-read_files-requires
read_with_files-read_files-requires t c = (omega arith, (c.requires.depth, rw c.as_slice.ensures.value c.in_ok-files.ensures.stored))

pub read_with_files-returns-in_err-files-clause-read : goal.read_with_files-returns-in_err-files-clause-read
read_with_files-returns-in_err-files-clause-read t c =
    rw (err_is c.from_residual.ensures.1) (λ ne. inr (c.in-Ok.read.0, c.in-Ok.read.1, c.in-Ok.ensures.found, inl (c.in_err-files.ensures.read ne)))

pub read_with_files-returns-in_err-files-clause-length : goal.read_with_files-returns-in_err-files-clause-length
read_with_files-returns-in_err-files-clause-length t c = rw (err_is c.from_residual.ensures.1) tt

pub read_with_files-returns-in_err-files-clause-memory : goal.read_with_files-returns-in_err-files-clause-memory
read_with_files-returns-in_err-files-clause-memory t c =
    rw (err_is c.from_residual.ensures.1) (λ want. (c.in-Ok.read.0, c.in-Ok.read.1, c.in-Ok.ensures.found))

pub read_with_files-returns-in_err-views-clause-read : goal.read_with_files-returns-in_err-views-clause-read
read_with_files-returns-in_err-views-clause-read t c =
    let first = rw c.as_slice.ensures.value at c.in_err-views.ensures in
    rw (err_is c.from_residual-in_err-views.ensures.1) (λ ne. inr (
      _,
      _,
      c.in-Ok.ensures.found,
      files_first c.args.at.left (InStream First c.args.at.left) c.in-Ok.read.1 _ _ _ _ c.in_ok-files.ensures.read (first ne),
    ))

pub read_with_files-returns-in_err-views-clause-length : goal.read_with_files-returns-in_err-views-clause-length
read_with_files-returns-in_err-views-clause-length t c = rw (err_is c.from_residual-in_err-views.ensures.1) tt

pub read_with_files-returns-in_err-views-clause-memory : goal.read_with_files-returns-in_err-views-clause-memory
read_with_files-returns-in_err-views-clause-memory t c =
    rw (err_is c.from_residual-in_err-views.ensures.1) (λ want. (c.in-Ok.read.0, c.in-Ok.read.1, c.in-Ok.ensures.found))

-- the header and the views of the files are the meaning of the volume
volume_made : (t : ℕ) (c : read_with_files-In_ok-views t) → Denotes c.args.at.left (take c.in-Ok.read.1.length c.args.bytes.now)
    (Volume c.in-Ok.read.0 (files_from c.in_ok-views.views.items))
volume_made t c =
    made _ c.args.bytes.now _ _ _ c.in-Ok.ensures.found (_, c.in_ok-files.ensures.read, rw c.as_slice.ensures.value at c.in_ok-views.ensures)

pub read_with_files-new-requires-clause-meaning : goal.read_with_files-new-requires-clause-meaning
read_with_files-new-requires-clause-meaning t c =
    let made = volume_made t (goal.at.read_with_files-new-requires-clause-meaning t c).In_ok-views in
    (c.args.at.left, omega arith, _, bytes_take c.in-Ok.read.1.length c.args.bytes.now (search rules), made)

pub read_with_files-new-requires-clause-order : goal.read_with_files-new-requires-clause-order
read_with_files-new-requires-clause-order t c =
    let pairs = rw c.as_slice.ensures.value at c.in_ok-views.ensures in
    rw (read_names (Stream c.args.at.left) _ c.in_ok-files.files.items c.in_ok-views.views.items pairs) c.in_ok-files.ensures.order

pub read_with_files-returns-clause-read : goal.read_with_files-returns-clause-read
read_with_files-returns-clause-read t c = rw c.new.ensures (volume_made t (goal.at.read_with_files-returns-clause-read t c).In_ok-views)

pub read_with_files-returns-clause-length : goal.read_with_files-returns-clause-length
read_with_files-returns-clause-length t c = (c.in-Ok.ensures.found.length_is ∙ ap length_of (sym c.new.ensures), c.in-Ok.ensures.found.is_within)

pub read_with_files-returns-clause-files : goal.read_with_files-returns-clause-files
read_with_files-returns-clause-files t c =
    (_, _, c.in-Ok.ensures.found, stands c.args.bytes.now _ _ c.in_ok-files.files.items c.in-Ok.ensures.found c.in_ok-files.ensures.read)

-- ---- a stream

pub read_stream-fault_within-requires : goal.read_stream-fault_within-requires
read_stream-fault_within-requires t c = omega (arith, c.in-Err.ensures.bound, c.requires.place)

pub read_stream-loop-frame-init : goal.read_stream-loop-frame-init
read_stream-loop-frame-init t c = walk_begun c.args.at.left c.args.bytes.now c.in-Ok.walk.1 c.in-Ok.walk.0 _ c.in-Ok.ensures.found

pub read_stream-read_section-requires : goal.read_stream-read_section-requires
read_stream-read_section-requires t c =
    let ready = walk_ready _ c.args.bytes.now _ _ _ _ _ _ c.loop-frame.invariant (rw c.in-Some.is at c.next_frame.ensures.some)
    (search rules) c.requires.small in
    (omega arith, (omega (arith, ready.0, c.requires.place), (c.requires.depth, ready.1)))

pub read_stream-loop-frame-preserved : goal.read_stream-loop-frame-preserved
read_stream-loop-frame-preserved t c =
    rw c.next_frame.ensures.tail (walk_more _ _ _ _ _ _ _ _ c.loop-frame.invariant (rw c.in-Some.is at c.next_frame.ensures.some) _
    c.in_ok-read_section.ensures)

pub read_stream-loop-frame-smaller : goal.read_stream-loop-frame-smaller
read_stream-loop-frame-smaller t c = omega (arith, ap length (rw c.in-Some.is at c.next_frame.ensures.some))

pub read_stream-returns-in-Err-clause-read : goal.read_stream-returns-in-Err-clause-read
read_stream-returns-in-Err-clause-read t c = λ ne. inl (c.in-Err.fault, c.in-Err.ensures.first, (c.fault_within.ensures.moved ne).1)

pub read_stream-returns-in-Err-clause-memory : goal.read_stream-returns-in-Err-clause-memory
read_stream-returns-in-Err-clause-memory t c want =
    absurd (frame_known c.args.bytes.now c.in-Err.fault c.in-Err.ensures.first (sym c.fault_within.ensures.kind ∙ ap (λ (f : Fault). f.kind) want))

pub read_stream-returns-in_err-read_section-clause-memory : goal.read_stream-returns-in_err-read_section-clause-memory
read_stream-returns-in_err-read_section-clause-memory t c =
    rw (err_is c.from_residual.ensures.1) (λ want. walk_some _ _ _ _ _ _ _ _ c.loop-frame.invariant
    (rw c.in-Some.is at c.next_frame.ensures.some))

pub read_stream-returns-in_err-read_section-clause-read : goal.read_stream-returns-in_err-read_section-clause-read
read_stream-returns-in_err-read_section-clause-read t c =
    rw (err_is c.from_residual.ensures.1) (λ ne. walk_first _ _ _ _ _ _ _ _ c.loop-frame.invariant
    (rw c.in-Some.is at c.next_frame.ensures.some) _ _ (c.in_err-read_section.ensures ne))

pub read_stream-returns-clause-read : goal.read_stream-returns-clause-read
read_stream-returns-clause-read t c = walk_found _ _ _ _ _ _ (search rules) c.loop-frame.invariant (rw c.in_default.is at c.next_frame.ensures.none).0

-- ---- a section that is a group

pub read_section-deeper-requires : goal.read_section-deeper-requires
read_section-deeper-requires t c = record { place = c.requires.place; depth = c.requires.depth }

pub read_section-returns-in_err-inside-in-Group : goal.read_section-returns-in_err-inside-in-Group
read_section-returns-in_err-inside-in-Group t c =
    let f : FrameForm = framed.frame_form c.args.frame.now in
    let err = c.in_err-inside-in-Group.ensures.err in
    rw (err_is c.from_residual.ensures.1) (λ ne. deep_fault _ f _ _ err.0 (inl (group_shape f (sym c.shape_of.ensures ∙ c.in-Group.is))) err.1)

pub read_section-read_stream-requires : goal.read_section-read_stream-requires
read_section-read_stream-requires t c =
    let ok = c.in_ok-inside-in-Group.ensures.ok in
    omega (arith, ok, c.requires, frame_small (framed.frame_form c.args.frame.now) c.requires.stored)

pub read_section-returns-in_ok-inside-in-Group : goal.read_section-returns-in_ok-inside-in-Group
read_section-returns-in_ok-inside-in-Group t c =
    let f : FrameForm = framed.frame_form c.args.frame.now in
    let ok = c.in_ok-inside-in-Group.ensures.ok in
    let is = sym c.shape_of.ensures ∙ c.in-Group.is in
    MatchResult-weaker c.read_stream.result c.read_stream.ensures.read (λ x read. group_read _ _ f c.args.volumes.now.items _ ok.0 is read)
    (λ e bad ne. group_first _ _ f e c.args.at.place _ ok.0 (group_shape f is) ok.1 ok.2 (bad ne))

-- ---- a section that is opened as a volume

pub read_section-deeper-requires-in-Volume : goal.read_section-deeper-requires-in-Volume
read_section-deeper-requires-in-Volume t c = record { place = c.requires.place; depth = c.requires.depth }

pub read_section-returns-in_err-inside-in-Volume : goal.read_section-returns-in_err-inside-in-Volume
read_section-returns-in_err-inside-in-Volume t c =
    let err = c.in_err-inside-in-Volume.ensures.err in
    rw (err_is c.from_residual-in_err-inside-in-Volume.ensures.1)
    (λ ne. deep_fault _ _ _ _ err.0 (inr (volume_shape _ (sym c.shape_of.ensures ∙ c.in-Volume.is))) err.1)

pub read_section-read_at-requires : goal.read_section-read_at-requires
read_section-read_at-requires t c = grind (arith, common_steps) steps 150000

pub read_section-returns-in_err-volume-in-Volume : goal.read_section-returns-in_err-volume-in-Volume
read_section-returns-in_err-volume-in-Volume t c =
    let ok = c.in_ok-inside-in-Volume.ensures.ok in
    rw (err_is c.from_residual-in_err-volume-in-Volume.ensures.1) (λ ne. nested_first _ _ _ _ _ _ ok.0
    (volume_shape _ (sym c.shape_of.ensures ∙ c.in-Volume.is)) ok.1 ok.2 (c.in_err-volume-in-Volume.ensures.read ne))

pub read_section-returns-in_err-push-in-Volume : goal.read_section-returns-in_err-push-in-Volume
read_section-returns-in_err-push-in-Volume t c = rw (err_is c.from_residual-in_err-push-in-Volume.ensures.1) (λ ne. absurd (ne refl))

pub read_section-returns-in_ok-push-in-Volume : goal.read_section-returns-in_ok-push-in-Volume
read_section-returns-in_ok-push-in-Volume t c =
    let f : FrameForm = framed.frame_form c.args.frame.now in
    let is = sym c.shape_of.ensures ∙ c.in-Volume.is in
    let read = c.in_ok-volume-in-Volume.ensures in
    volume_read _ _ f _ _ _ c.in_ok-inside-in-Volume.ensures.ok.0 is
    (opened_whole _ _ f.body _ (volume_shape f is).opens read.length.1 read.read) c.in_ok-push-in-Volume.ensures.items

-- ---- a leaf

pub read_section-returns-in-Leaf : goal.read_section-returns-in-Leaf
read_section-returns-in-Leaf t c = leaf_read c.args.at.left _ c.args.volumes.now.items (sym c.shape_of.ensures ∙ c.in-Leaf.is)
