-- After the marks of fixed files were taken away at every depth, the first fault of the bytes is not Fixed: in a volume
-- (`volume_never`), in a stream (`stream_never`), and in a section (`section_never`).
use Rattle.std.proofs.Common.{◌≡◌, ◌≢◌, ℕ, zero, suc}
use Rattle.fv_base.proofs.Laws.{List, take, drop, refl, sym, ap, ◌∙◌, subst, true, false, Bool, inl, inr}
use Rattle.fv_base.proofs.Laws.{AllByRecursion, First, fails_among, in_middle}
use Rattle.fv_base.specs.declared.fault.Fault.{Fault}
use Rattle.fv_base.specs.declared.fault.Place.{Place}
use Rattle.fv_base.specs.declared.fault.FaultKind.TheVariants as kinds
use Rattle.fv_file.specs.Words.{CellForm, Tiles, CellFault}
use Rattle.fv_file.proofs.Laws.{none_after, only_one}
use Rattle.fv_head.specs.Words.{BeginsVolume, HeadFields, is_one_volume}
use Rattle.fv_head.specs.declared.extent.Extent.{Extent}
use Rattle.fv_head.proofs.Laws.{one_front}
use Rattle.fv_section.specs.Words.{FrameForm}
use Rattle.fv_tree.specs.Words.{AreFilesOf, BeginWithFiles, BodyFault, FileFault, FileForm, InSection, InStream, InVolume, NamesFault, Opens, body_at, current_in}
use Rattle.fv_tree.specs.Words.{data_at, files_in, group_kind, holds_sections, shape_of, volume_kind}
use Rattle.fv_tree.proofs.Laws.{header_kept, kept, opens_decides}
use Rattle.fv_tree.specs.declared.shape.Shape.{Shape}
use Rattle.fv_tree.specs.declared.shape.Shape.TheVariants as shapes
use Rattle.fv_marks.specs.Words.{BodyLoses, DataLose, EachFileLoses, Loses, LosesOwn, StreamLoses, VolumeLoses}
use Rattle.fv_marks.proofs.VolumeChangeLemmas.{FileBecame, became, changed, new_body, still}
use Rattle.fv_marks.proofs.StreamChangeLemmas.{Became, stream_became, with_body}
use Rattle.fv_marks.proofs.SumLemmas.{SumsStay, body_sum, stream_sum}

-- the fault is not Fixed
abbrev pub IsOther : Fault → Type 0
IsOther f = f.kind ≢ kinds.Fixed

other_is : (e f : Fault) → e.kind ≡ f.kind → IsOther f → IsOther e
other_is e f same other is = other (sym same ∙ is)

-- a fault of the names of files is not Fixed
names_other : (n : ℕ) (fs : List FileForm) (f : Fault) → NamesFault First n fs f → IsOther f
names_other n fs f (inl (g, twin, is)) = λ k. cc (ap (λ (x : Fault). x.kind) is, k)
names_other n fs f (inr (none, g, top, is)) = λ k. cc (ap (λ (x : Fault). x.kind) is, k)

-- ---- a volume

module _ (n : ℕ) (stream : Loses) (stay : SumsStay stream)
    (never : (e : Fault) (b o : List ℕ) (at : Place) → stream b o → InStream First n e o at → IsOther e) where
  file_never : (e : Fault) (g : FileForm) (at : Place) (y : List ℕ) → DataLose stream (holds_sections g.head.kind) y g.payload
      → FileFault (InStream First n) e g at → IsOther e
  file_never e g at y lost (holds, bad) = never e y g.payload (data_at at g) (rw holds at lost) bad

  -- the volume whose files could not be read: only its own marks were taken away
  unread_never : (e : Fault) (b o : List ℕ) (at : Place) → LosesOwn b o → ((files : List FileForm) → BeginWithFiles o files → ⊥)
      → (h : HeadFields) (x : Extent) → BeginsVolume h x o → BodyFault First n (InStream First n) x e (take x.length o) at → IsOther e
  unread_never e b o at (inl (none, same)) unread h x front bad = absurd (none (h, x, subst (BeginsVolume h x) same front))
  unread_never e b o at (inr (y, body, u, last)) unread h x front bad =
      let k = kept b o body y u in
      let is : x ≡ y = (one_front o h u.head x y front (header_kept b o u.head y u.begins k.length_is k.prefix)).1 in
      in_body (subst (λ (z : Extent). BodyFault First n (InStream First n) z e (take z.length o) at) is bad) k.body_is
      (λ files current. unread files (u.head, y, header_kept b o u.head y u.begins k.length_is k.prefix, current))
    where
      in_body : BodyFault First n (InStream First n) y e (take y.length o) at → drop y.first (take y.length o) ≡ body
          → ((files : List FileForm) → AreFilesOf y (take y.length o) files → ⊥) → IsOther e
      in_body (inl (f, inl cell, is)) same none =
          other_is e f (ap (λ (z : Fault). z.kind) is) (last f (subst (λ (l : List ℕ). CellFault First y.file_system y.polarity y.first l f) same cell))
      in_body (inl (f, inr (cells, tiles, names), is)) same none =
          other_is e f (ap (λ (z : Fault). z.kind) is) (names_other y.length (files_in cells) f names)
      in_body (inr (cells, tiles, right, found)) same none =
          absurd (none (current_in (files_in cells)) (record {
            cells = cells;
            tiles = tiles;
            current = record { no_twins = right.0; files_are = refl; top = right.1 };
          }))

  -- the volume whose files were read: the data of its files changed
  tiled_never : (o : List ℕ) (x : Extent) (new : List ℕ) (ds : List CellForm) → drop x.first (take x.length o) ≡ new
      → Tiles x.file_system x.polarity x.first ds new → AllByRecursion (FileBecame stream) (current_in (files_in ds)) → (e : Fault) (at : Place)
      → BodyFault First n (InStream First n) x e (take x.length o) at → IsOther e
  tiled_never o x new ds is tiled all e at (inl (f, inl cell, moved)) =
      absurd (none_after First x.file_system x.polarity x.first new f ds
      (subst (λ (l : List ℕ). CellFault First x.file_system x.polarity x.first l f) is cell) tiled)
  tiled_never o x new ds is tiled all e at (inl (f, inr (cells, tiles, names), moved)) =
      other_is e f (ap (λ (z : Fault). z.kind) moved) (names_other x.length (files_in cells) f names)
  tiled_never o x new ds is tiled all e at (inr (cells, tiles, right, (before, g, after, text, read, bad))) =
      let same : cells ≡ ds =
      only_one x.file_system x.polarity x.first new ds cells tiled
      (subst (λ (l : List ℕ). Tiles x.file_system x.polarity x.first cells l) is tiles) in
      let here : FileBecame stream g =
      in_middle (FileBecame stream) before g after
      (subst (AllByRecursion (FileBecame stream)) (ap (λ (l : List CellForm). current_in (files_in l)) (sym same) ∙ text) all) in
      file_never e g at here.0 here.1 bad

  read_never : (b o : List ℕ) (h : HeadFields) (x : Extent) (front : BeginsVolume h x b) (fs : List FileForm)
      (are : AreFilesOf x (take x.length b) fs) (lost : EachFileLoses stream fs b o) (e : Fault) (at : Place) (k : HeadFields) (y : Extent)
      → BeginsVolume k y o → BodyFault First n (InStream First n) y e (take y.length o) at → IsOther e
  read_never b o h x front fs are lost e at k y other bad =
      let c = changed stream stay b o h x front fs are lost in
      let one : y ≡ x = (one_front o k h y x other (still stream stay b o h x front fs are lost)).1 in
      tiled_never o x c.new c.cells (new_body stream stay b o h x front fs are lost) c.tiles (became stream stay b o h x front fs are lost) e at
      (subst (λ (z : Extent). BodyFault First n (InStream First n) z e (take z.length o) at) one bad)

  pub volume_never : (e : Fault) (b o : List ℕ) (at : Place) → VolumeLoses stream b o → InVolume First n e o at → IsOther e
  volume_never e b o at lost (inl (f, bad, is)) =
      other_is e f (ap (λ (z : Fault). z.kind) is) (fails_among First IsOther _ f
      (λ k. cc, (λ k. cc, (λ k. cc, (λ k. cc, (λ k. cc, (λ k. cc, (λ k. cc, (λ k. cc, (λ k. cc, (λ k. cc, (λ k. cc, tt))))))))))) bad)
  volume_never e b o at (m, own, inl (unread, same)) (inr (h, x, front, bad)) =
      unread_never e b o at (subst (LosesOwn b) (sym same) own)
      (subst (λ (l : List ℕ). (files : List FileForm) → BeginWithFiles l files → ⊥) (sym same) unread) h x front bad
  volume_never e b o at (m, own, inr (fs, (k, y, begins, are), each)) (inr (h, x, front, bad)) =
      read_never m o k y begins fs are each e at h x front bad

-- ---- a stream

module _ (n : ℕ) (inside : Shape → Loses) (stay : (k : Shape) → SumsStay (inside k))
    (never : (e : Fault) (g : FrameForm) (at : Place) → Became inside stay g → InSection First n e g at → IsOther e) where
  pub stream_never : (e : Fault) (b o : List ℕ) (at : Place) → StreamLoses inside b o → InStream First n e o at → IsOther e
  stream_never e b o at lost (inl (f, bad, is)) =
      other_is e f (ap (λ (z : Fault). z.kind) is) (fails_among First IsOther _ f (λ k. cc, (λ k. cc, tt)) bad.fails)
  stream_never e b o at (fs, lost) (inr (frames, tail, split, (first, g, later, text, read, bad))) =
      never e g at (in_middle (Became inside stay) first g later
      (subst (AllByRecursion (Became inside stay)) text (stream_became inside stay fs frames tail b o lost split))) bad

-- ---- a section

-- how a body is read follows from the type, and from the body if the type is 17
group_is : (f : FrameForm) → f.kind ≡ group_kind → shape_of f ≡ shapes.Group
group_is f is = rw is refl

volume_is : (f : FrameForm) → f.kind ≡ volume_kind → is_one_volume f.body ≡ true → shape_of f ≡ shapes.Volume
volume_is f is opens = rw (is, opens) refl

leaf_is : (f : FrameForm) → f.kind ≡ volume_kind → is_one_volume f.body ≡ false → shape_of f ≡ shapes.Leaf
leaf_is f is closed = rw (is, closed) refl

-- a body that is opened as a volume was opened before it changed
opened_never : (n : ℕ) → ((e : Fault) (b o : List ℕ) (at : Place) → VolumeLoses (StreamLoses (BodyLoses n)) b o → InVolume First n e o at → IsOther e)
    → (e : Fault) (g : FrameForm) (at : Place) (k : Shape) (y : List ℕ) (t : Bool) → is_one_volume y ≡ t → k ≡ shape_of (with_body g y)
    → BodyLoses (suc n) k y g.body → g.kind ≡ volume_kind → Opens g.body → InVolume First n e g.body (body_at at g) → IsOther e
opened_never n never e g at k y true opened is lost kind opens bad =
    never e y g.body (body_at at g) (subst (λ (k : Shape). BodyLoses (suc n) k y g.body) (is ∙ volume_is (with_body g y) kind opened) lost) bad
opened_never n never e g at k y false closed is lost kind opens bad =
    let same : g.body ≡ y = subst (λ (k : Shape). BodyLoses (suc n) k y g.body) (is ∙ leaf_is (with_body g y) kind closed) lost in
    cc ((opens_decides y).1 (subst Opens same opens), closed)

pub section_never : (n : ℕ) (e : Fault) (g : FrameForm) (at : Place) → Became (BodyLoses n) (body_sum n) g → InSection First n e g at → IsOther e
section_never zero e g at became (which, is) = λ k. cc (ap (λ (x : Fault). x.kind) is, k)
section_never (suc n) e g at (k, y, is, lost) (inl (group, bad)) =
    stream_never n (BodyLoses n) (body_sum n) (section_never n) e y g.body (body_at at g)
    (subst (λ (k : Shape). BodyLoses (suc n) k y g.body) (is ∙ group_is (with_body g y) group) lost) bad
section_never (suc n) e g at (k, y, is, lost) (inr (kind, opens, bad)) =
    opened_never n
    (volume_never n (StreamLoses (BodyLoses n)) (stream_sum (BodyLoses n) (body_sum n)) (stream_never n (BodyLoses n) (body_sum n) (section_never n)))
    e g at k y (is_one_volume y) refl is lost kind opens bad

-- ---- the bytes that are given

pub sections_never : (n : ℕ) (e : Fault) (b o : List ℕ) (at : Place) → StreamLoses (BodyLoses n) b o → InStream First n e o at → IsOther e
sections_never n = stream_never n (BodyLoses n) (body_sum n) (section_never n)

pub bytes_never : (n : ℕ) (e : Fault) (b o : List ℕ) (at : Place) → VolumeLoses (StreamLoses (BodyLoses n)) b o → InVolume First n e o at → IsOther e
bytes_never n = volume_never n (StreamLoses (BodyLoses n)) (stream_sum (BodyLoses n) (body_sum n)) (sections_never n)
