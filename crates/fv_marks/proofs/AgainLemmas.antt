-- Bytes that have lost the marks of fixed files stay the same if the marks are taken away again: a stream
-- (`stream_again`), a volume (`volume_again`), and the body of a section (`body_again`).
use Rattle.std.proofs.Common.{◌≡◌, ◌≢◌, ℕ, zero, suc, ◌+◌, ◌-◌, ◌==◌, ◌&&◌, [], ◌∷◌, ◌++◌, if◌then◌else◌}
use Rattle.fv_base.proofs.Laws.{List, length, take, drop, refl, sym, ap, ◌∙◌, subst, arith, field, true, false, Bool, inl, inr, AllByRecursion, drop-take}
use Rattle.fv_base.specs.declared.fault.Fault.{Fault}
use Rattle.fv_base.specs.declared.fault.FaultKind.TheVariants as kinds
use Rattle.fv_file.specs.Words.{IsFirstCellFault}
use Rattle.fv_file.proofs.Laws.{tiled_unfixed}
use Rattle.fv_head.specs.Words.{BeginsVolume, BeginsWithHeader, HeadFields, is_one_volume}
use Rattle.fv_head.specs.declared.extent.Extent.{Extent}
use Rattle.fv_head.proofs.Laws.{first_lies}
use Rattle.fv_section.specs.Words.{FrameForm, HasFrameAt, frame_len, up_to_4}
use Rattle.fv_tree.specs.Words.{BeginWithFiles, FileForm, HasDataIn, body_place, current_in, data_place, files_in, group_kind}
use Rattle.fv_tree.specs.Words.{holds_sections, shape_of, volume_kind}
use Rattle.fv_tree.proofs.Laws.{begun_data, header_kept, kept}
use Rattle.fv_tree.specs.declared.shape.Shape.{Shape}
use Rattle.fv_tree.specs.declared.shape.Shape.TheVariants as shapes
use Rattle.fv_marks.specs.Words.{BodyLoses, ChangesPart, DataLose, EachFileLoses, FramesLose, Loses, LosesOwn, StreamLoses, VolumeLoses}
use Rattle.fv_marks.proofs.FrameLemmas.{body_there}
use Rattle.fv_marks.proofs.PartLemmas.{three_parts}
use Rattle.fv_marks.proofs.StreamChangeLemmas.{next_same, still as still_frame, lost_body, with_body}
use Rattle.fv_marks.proofs.SumLemmas.{SumsStay, body_sum, stream_sum}
use Rattle.fv_marks.proofs.VolumeChangeLemmas.{FileBecame, became, changed, new_body, still, still_files}

-- what bytes became stays the same
abbrev pub StaysAgain : Loses → Type 0
StaysAgain loses = (b o : List ℕ) → loses b o → loses o o

-- if a part stays the same, the bytes do
part_again : (loses : Loses) (p n : ℕ) (o y : List ℕ) → field p n o ≡ y → loses y y → ChangesPart loses p n o o
part_again loses p n o y is same =
    (y, subst (λ (l : List ℕ). loses l y) (sym is) same, sym (ap (λ (l : List ℕ). take p o ++ (l ++ drop (p + n) o)) (sym is) ∙ three_parts p n o))

-- ---- a volume

-- a body whose first fault is not Fixed has no mark to lose
own_same : (o : List ℕ) (h : HeadFields) (e : Extent) (body : List ℕ) → BeginsVolume h e o → drop e.first (take e.length o) ≡ body
    → ((f : Fault) → IsFirstCellFault e.file_system e.polarity e.first body f → f.kind ≢ kinds.Fixed) → LosesOwn o o
own_same o h e body front is last =
    let low = (first_lies o h e front).1 in
    let part : field e.first (e.length - e.first) o ≡ body =
    sym (drop-take e.first (e.length - e.first) o) ∙ ap (λ (n : ℕ). drop e.first (take n o)) (omega (arith, low)) ∙ is in
    let whole : take e.first o ++ (field e.first (e.length - e.first) o ++ drop e.length o) ≡ o =
    ap (λ (n : ℕ). take e.first o ++ (field e.first (e.length - e.first) o ++ drop n o)) (omega (arith, low))
    ∙ three_parts e.first (e.length - e.first) o in
    inr (
      e,
      body,
      record {
        head = h;
        begins = front;
        places = [];
        marks = sym part;
        text = sym whole ∙ ap (λ (l : List ℕ). take e.first o ++ (l ++ drop e.length o)) part;
      },
      last,
    )

own_again : StaysAgain LosesOwn
own_again b o (inl (none, same)) = inl ((λ front. none (subst BeginsWithHeader same front)), refl)
own_again b o (inr (e, body, u, last)) =
    let k = kept b o body e u in
    own_same o u.head e body (header_kept b o u.head e u.begins k.length_is k.prefix) k.body_is last

module _ (stream : Loses) (stay : SumsStay stream) (again : StaysAgain stream) where
  data_again : (t : Bool) → StaysAgain (DataLose stream t)
  data_again true b o lost = again b o lost
  data_again false b o same = refl

  each_again : (o : List ℕ) (fs : List FileForm) → AllByRecursion (HasDataIn o) fs → AllByRecursion (FileBecame stream) fs
      → EachFileLoses stream fs o o
  each_again o [] there all = refl
  each_again o (f ∷ fs) there all = (
    o,
    part_again (DataLose stream (holds_sections f.head.kind)) (data_place f) (length f.payload) o f.payload there.0.1
        (data_again (holds_sections f.head.kind) all.0.0 f.payload all.0.1),
    each_again o fs there.1 all.1,
  )

  pub volume_again : StaysAgain (VolumeLoses stream)
  volume_again b o (m, own, inl (unread, same)) =
      let none : (files : List FileForm) → BeginWithFiles o files → ⊥ =
      subst (λ (l : List ℕ). (files : List FileForm) → BeginWithFiles l files → ⊥) (sym same) unread in
      (o, own_again b o (subst (LosesOwn b) (sym same) own), inl (none, refl))
  volume_again b o (m, own, inr (fs, (h, x, front, are), lost)) =
      let c = changed stream stay m o h x front fs are lost in
      let files : List FileForm = current_in (files_in c.cells) in
      let begins : BeginsVolume h x o = still stream stay m o h x front fs are lost in
      let begun : BeginWithFiles o files = (h, x, begins, still_files stream stay m o h x front fs are lost) in (
        o,
        own_same o h x c.new begins (new_body stream stay m o h x front fs are lost)
            (tiled_unfixed x.file_system x.polarity x.first c.new c.cells c.tiles),
        inr (files, begun, each_again o files (begun_data o files begun) (became stream stay m o h x front fs are lost)),
      )

-- ---- a stream

module _ (inside : Shape → Loses) (stay : (k : Shape) → SumsStay (inside k)) (again : (k : Shape) → StaysAgain (inside k))
    (leaf : (x : List ℕ) → inside shapes.Leaf x x) (leaf_same : (y x : List ℕ) → inside shapes.Leaf y x → x ≡ y) where
  -- whether a body is opened may change, but a body that is not opened after the change has no marks
  by_tests : (g w v : Bool) (y x : List ℕ) → (x ≡ y → v ≡ w)
      → inside (if g then shapes.Group else (if w then shapes.Volume else shapes.Leaf)) y x
      → inside (if g then shapes.Group else (if v then shapes.Volume else shapes.Leaf)) x x
  by_tests true w v y x same lost = again shapes.Group y x lost
  by_tests false w false y x same lost = leaf x
  by_tests false true true y x same lost = again shapes.Volume y x lost
  by_tests false false true y x same lost = cc (same (leaf_same y x lost))

  frame_again : (f : FrameForm) (x : List ℕ) → inside (shape_of f) f.body x → inside (shape_of (with_body f x)) x x
  frame_again f x lost =
      by_tests (f.kind == group_kind) ((f.kind == volume_kind) && is_one_volume f.body) ((f.kind == volume_kind) && is_one_volume x) f.body x
      (ap (λ (l : List ℕ). (f.kind == volume_kind) && is_one_volume l)) lost

  frames_again : (fs : List FrameForm) (at : ℕ) (b o : List ℕ) → FramesLose inside fs at b o → (gs : List FrameForm) × FramesLose inside gs at o o
  frames_again [] at b o (none, same) = ([], ((λ g here. none g (subst (HasFrameAt g at) same here)), refl))
  frames_again (f ∷ fs) at b o (here, (m, (x, lost, text), more)) =
      let g : FrameForm = with_body f x in
      let there : HasFrameAt g at o = still_frame inside stay f fs at b m o x here lost text more in
      let others = frames_again fs (up_to_4 (at + frame_len f)) m o more in
      let place : up_to_4 (at + frame_len g) ≡ up_to_4 (at + frame_len f) = next_same inside stay f fs at b m o x here lost text more in
      let change = part_again (inside (shape_of g)) (body_place g) (length x) o x (body_there g at o there).0
      (frame_again f x (lost_body inside stay f fs at b m o x here lost text more)) in
      (g ∷ others.0, (there, (o, change, subst (λ (n : ℕ). FramesLose inside others.0 n o o) (sym place) others.1)))

  pub stream_again : StaysAgain (StreamLoses inside)
  stream_again b o (fs, lost) = frames_again fs 0 b o lost

-- ---- the recursion

leaf_refl : (n : ℕ) (x : List ℕ) → BodyLoses n shapes.Leaf x x
leaf_refl n x = refl

leaf_is : (n : ℕ) (y x : List ℕ) → BodyLoses n shapes.Leaf y x → x ≡ y
leaf_is n y x same = same

pub body_again : (n : ℕ) (k : Shape) → StaysAgain (BodyLoses n k)
body_again n shapes.Leaf b o same = refl
body_again zero shapes.Group b o same = refl
body_again zero shapes.Volume b o same = refl
body_again (suc n) shapes.Group b o lost = stream_again (BodyLoses n) (body_sum n) (body_again n) (leaf_refl n) (leaf_is n) b o lost
body_again (suc n) shapes.Volume b o lost =
    volume_again (StreamLoses (BodyLoses n)) (stream_sum (BodyLoses n) (body_sum n))
    (stream_again (BodyLoses n) (body_sum n) (body_again n) (leaf_refl n) (leaf_is n)) b o lost

pub streams_again : (n : ℕ) → StaysAgain (StreamLoses (BodyLoses n))
streams_again n = stream_again (BodyLoses n) (body_sum n) (body_again n) (leaf_refl n) (leaf_is n)

pub volumes_again : (n : ℕ) → StaysAgain (VolumeLoses (StreamLoses (BodyLoses n)))
volumes_again n = volume_again (StreamLoses (BodyLoses n)) (stream_sum (BodyLoses n) (body_sum n)) (streams_again n)
