-- Bytes lose the marks of fixed files in one way: there is one result for a stream (`one_stream`), a volume
-- (`one_volume`), and the body of a section (`one_body`).
use Rattle.std.proofs.Common.{◌≡◌, ◌≢◌, ℕ, zero, suc, ◌+◌, ◌-◌, [], ◌∷◌, ◌++◌}
use Rattle.fv_base.proofs.Laws.{List, length, take, drop, sym, ap, ◌∙◌, subst, field, inl, inr, true, false, Bool}
use Rattle.fv_base.specs.declared.fault.Fault.{Fault}
use Rattle.fv_base.specs.declared.fault.FaultKind.TheVariants as kinds
use Rattle.fv_file.specs.Words.{IsFirstCellFault}
use Rattle.fv_file.proofs.Laws.{one_unmarked}
use Rattle.fv_head.specs.declared.extent.Extent.{Extent}
use Rattle.fv_head.proofs.Laws.{one_front}
use Rattle.fv_section.specs.Words.{FrameForm, HasFrameAt, frame_len, up_to_4}
use Rattle.fv_section.proofs.Laws.{one_frame}
use Rattle.fv_tree.specs.Words.{FileForm, Unfixes, body_place, data_place, holds_sections, shape_of}
use Rattle.fv_tree.proofs.Laws.{one_files}
use Rattle.fv_tree.specs.declared.shape.Shape.{Shape}
use Rattle.fv_tree.specs.declared.shape.Shape.TheVariants as shapes
use Rattle.fv_marks.specs.Words.{BodyLoses, ChangesPart, DataLose, EachFileLoses, FilesLose, FramesLose, Loses, LosesOwn, StreamLoses}
use Rattle.fv_marks.specs.Words.{VolumeLoses}

-- bytes become only one thing
abbrev pub HasOne : Loses → Type 0
HasOne loses = (b o x : List ℕ) → loses b o → loses b x → x ≡ o

one_part : (loses : Loses) (p n : ℕ) → HasOne loses → HasOne (ChangesPart loses p n)
one_part loses p n one b o x (y, lost, text) (z, change, is) =
    is ∙ ap (λ (l : List ℕ). take p b ++ (l ++ drop (p + n) b)) (one (field p n b) y z lost change) ∙ sym text

-- ---- a volume

one_own : HasOne LosesOwn
one_own b o x (inl (none, same)) (inl (nothing, is)) = is ∙ sym same
one_own b o x (inl (none, same)) (inr (e, body, u, last)) = absurd (none (u.head, e, u.begins))
one_own b o x (inr (e, body, u, last)) (inl (none, same)) = absurd (none (u.head, e, u.begins))
one_own b o x (inr (e, body, u, last)) (inr (y, other, v, end)) =
    let one : y ≡ e = (one_front b v.head u.head y e v.begins u.begins).1 in
    let w : Unfixes e b x other = subst (λ (z : Extent). Unfixes z b x other) one v in
    let last' : (f : Fault) → IsFirstCellFault e.file_system e.polarity e.first other f → f.kind ≢ kinds.Fixed =
    subst (λ (z : Extent). (f : Fault) → IsFirstCellFault z.file_system z.polarity z.first other f → f.kind ≢ kinds.Fixed) one end in
    let same : other ≡ body =
    one_unmarked e.file_system e.polarity e.first u.places w.places (field e.first (e.length - e.first) b) body other u.marks last w.marks last' in
    w.text ∙ ap (λ (l : List ℕ). take e.first b ++ (l ++ drop e.length b)) same ∙ sym u.text

module _ (stream : Loses) (one : HasOne stream) where
  one_data : (t : Bool) → HasOne (DataLose stream t)
  one_data true b o x lost change = one b o x lost change
  one_data false b o x same is = is ∙ sym same

  one_each : (fs : List FileForm) → HasOne (EachFileLoses stream fs)
  one_each [] b o x same is = is ∙ sym same
  one_each (f ∷ fs) b o x (m, lost, more) (n, change, rest) =
      let same : n ≡ m = one_part (DataLose stream (holds_sections f.head.kind)) (data_place f) (length f.payload)
      (one_data (holds_sections f.head.kind)) b m n lost change in
      one_each fs m o x more (subst (λ (l : List ℕ). EachFileLoses stream fs l x) same rest)

  one_of_files : HasOne (FilesLose stream)
  one_of_files b o x (inl (none, same)) (inl (nothing, is)) = is ∙ sym same
  one_of_files b o x (inl (none, same)) (inr (fs, begun, each)) = absurd (none fs begun)
  one_of_files b o x (inr (fs, begun, each)) (inl (none, same)) = absurd (none fs begun)
  one_of_files b o x (inr (fs, begun, each)) (inr (gs, other, rest)) =
      one_each fs b o x each (subst (λ (l : List FileForm). EachFileLoses stream l b x) (one_files b fs gs begun other) rest)

  pub one_volume : HasOne (VolumeLoses stream)
  one_volume b o x (m, own, lost) (n, change, rest) =
      one_of_files m o x lost (subst (λ (l : List ℕ). FilesLose stream l x) (one_own b m n own change) rest)

-- ---- a stream

-- one frame begins at a place
one_there : (f g : FrameForm) (at : ℕ) (b : List ℕ) → HasFrameAt f at b → HasFrameAt g at b → g ≡ f
one_there f g at b s t = (one_frame g f (drop at b) t.rest s.rest (t.offset ∙ sym s.offset) t.begins s.begins).0

module _ (inside : Shape → Loses) (one : (k : Shape) → HasOne (inside k)) where
  one_frames : (fs gs : List FrameForm) (at : ℕ) (b o x : List ℕ) → FramesLose inside fs at b o → FramesLose inside gs at b x → x ≡ o
  one_frames [] [] at b o x (none, same) (nothing, is) = is ∙ sym same
  one_frames [] (g ∷ gs) at b o x (none, same) (here, more) = absurd (none g here)
  one_frames (f ∷ fs) [] at b o x (here, more) (none, same) = absurd (none f here)
  one_frames (f ∷ fs) (g ∷ gs) at b o x (here, (m, lost, more)) (there, (n, change, rest)) =
      let is : g ≡ f = one_there f g at b here there in
      let change' : ChangesPart (inside (shape_of f)) (body_place f) (length f.body) b n =
      subst (λ (h : FrameForm). ChangesPart (inside (shape_of h)) (body_place h) (length h.body) b n) is change in
      let same : n ≡ m = one_part (inside (shape_of f)) (body_place f) (length f.body) (one (shape_of f)) b m n lost change' in
      one_frames fs gs (up_to_4 (at + frame_len f)) m o x more
      (subst (λ (l : List ℕ). FramesLose inside gs (up_to_4 (at + frame_len f)) l x) same
      (subst (λ (h : FrameForm). FramesLose inside gs (up_to_4 (at + frame_len h)) n x) is rest))

  pub one_stream : HasOne (StreamLoses inside)
  one_stream b o x (fs, lost) (gs, change) = one_frames fs gs 0 b o x lost change

-- ---- the recursion

pub one_body : (n : ℕ) (k : Shape) → HasOne (BodyLoses n k)
one_body n shapes.Leaf b o x same is = is ∙ sym same
one_body zero shapes.Group b o x same is = is ∙ sym same
one_body zero shapes.Volume b o x same is = is ∙ sym same
one_body (suc n) shapes.Group b o x lost change = one_stream (BodyLoses n) (one_body n) b o x lost change
one_body (suc n) shapes.Volume b o x lost change =
    one_volume (StreamLoses (BodyLoses n)) (one_stream (BodyLoses n) (one_body n)) b o x lost change
