-- Bytes that are accepted stay the same: a stream (`stream_kept`), a volume (`volume_kept`), and the body of a section
-- (`body_kept`).
use Rattle.std.proofs.Common.{◌≡◌, ◌≤◌, ℕ, zero, suc, ◌+◌, ◌-◌, [], ◌∷◌, ◌++◌}
use Rattle.fv_base.proofs.Laws.{List, length, take, drop, refl, sym, ap, ◌∙◌, subst, arith, field, inl, inr, true, false, Bool}
use Rattle.fv_base.proofs.Laws.{drop-take, take_all, AllByRecursion}
use Rattle.fv_file.specs.Words.{Tiles, Unmarks}
use Rattle.fv_file.proofs.Laws.{none_after}
use Rattle.fv_base.specs.Words.{First}
use Rattle.fv_head.specs.Words.{BeginsVolume}
use Rattle.fv_head.specs.declared.extent.Extent.{Extent}
use Rattle.fv_head.proofs.Laws.{first_lies, one_front}
use Rattle.fv_section.specs.Words.{FrameForm, SplitsFrom, frame_len, up_to_4}
use Rattle.fv_section.proofs.Laws.{others_split}
use Rattle.fv_tree.specs.Words.{BeginWithFiles, Denotes, FileForm, HasDataIn, MeansContent, MeansFile, MeansSection, Pairwise, Stream, body_place}
use Rattle.fv_tree.specs.Words.{data_place, head_of, holds_sections, shape_of}
use Rattle.fv_tree.specs.Words.{Meaning, FileMeaning, File, ContentMeaning, Plain, Sectioned, SectionMeaning, Section, Leaf, Group, Nested}
use Rattle.fv_tree.specs.Words.{sections_list, AreFilesOf, Opens, files_of, group_kind, volume_kind}
use Rattle.fv_tree.proofs.Laws.{begun_data, front_of, group_is_no_volume, group_shape, one_files, volume_shape}
use Rattle.fv_tree.specs.declared.shape.Shape.{Shape}
use Rattle.fv_tree.specs.declared.shape.Shape.TheVariants as shapes
use Rattle.fv_marks.specs.Words.{BodyLoses, EachFileLoses, FilesLose, FramesLose, Loses, LosesOwn, StreamLoses, VolumeLoses}
use Rattle.fv_marks.specs.Words.{DataLose}
use Rattle.fv_marks.proofs.FrameLemmas.{body_there, first_is, none_there}
use Rattle.fv_marks.proofs.PartLemmas.{part_same, three_parts}

-- ---- a stream

-- the bodies of frames that were read stay the same
abbrev pub BodiesStay : ℕ → (Shape → Loses) → Type 0
BodiesStay n inside = (f : FrameForm) (s : SectionMeaning) (x : List ℕ) → MeansSection n f s → inside (shape_of f) f.body x → x ≡ f.body

module _ (n : ℕ) (inside : Shape → Loses) (stay : BodiesStay n inside) where
  frames_kept : (gs fs : List FrameForm) (ss : List SectionMeaning) (t at : ℕ) (b o : List ℕ) → SplitsFrom at fs t (drop at b)
      → Pairwise (MeansSection n) fs ss → FramesLose inside gs at b o → o ≡ b
  frames_kept [] fs ss t at b o split means (none, same) = same
  frames_kept (g ∷ gs) [] ss t at b o split means (here, more) = absurd (none_there at g t b split here)
  frames_kept (g ∷ gs) (f ∷ fs) [] t at b o split means (here, more) = absurd means
  frames_kept (g ∷ gs) (f ∷ fs) (s ∷ ss) t at b o split means (here, (m, change, more)) =
      let is : g ≡ f = first_is at f g fs t b split here in
      let means' : MeansSection n g s = rw is means.0 in
      let there = body_there g at b here in
      let same : m ≡ b = part_same (inside (shape_of g)) (body_place g) (length g.body) b m
      (λ x lost. stay g s x means' (subst (λ (l : List ℕ). inside (shape_of g) l x) there.0 lost) ∙ sym there.0) change in
      let rest = others_split at f fs t b split in
      frames_kept gs fs ss rest.0 (up_to_4 (at + frame_len f)) b o rest.1 means.1
      (subst (λ (h : FrameForm). FramesLose inside gs (up_to_4 (at + frame_len h)) b o) is
      (subst (λ (l : List ℕ). FramesLose inside gs (up_to_4 (at + frame_len g)) l o) same more))

  pub stream_kept : (ss : List SectionMeaning) (t : ℕ) (b o : List ℕ) → Stream n ss t b → StreamLoses inside b o → o ≡ b
  stream_kept ss t b o (fs, split, means) (gs, lost) = frames_kept gs fs ss t 0 b o split means lost

-- ---- a volume

-- streams that were read stay the same
abbrev pub StreamsStay : ℕ → Loses → Type 0
StreamsStay n stream = (ss : List SectionMeaning) (t : ℕ) (b o : List ℕ) → Stream n ss t b → stream b o → o ≡ b

module _ (n : ℕ) (stream : Loses) (stay : StreamsStay n stream) where
  data_kept : (t : Bool) (kind : ℕ) (b o : List ℕ) (c : ContentMeaning) → holds_sections kind ≡ t → MeansContent (Stream n) kind b c
      → DataLose stream t b o → o ≡ b
  data_kept false kind b o c is means lost = lost
  data_kept true kind b o (Plain x) is means lost = cc (is, means.0)
  data_kept true kind b o (Sectioned ss t) is means lost = stay (sections_list ss) t b o means.1 lost

  file_kept : (f : FileForm) (m : FileMeaning) (x : List ℕ) → MeansFile (Stream n) f m
      → DataLose stream (holds_sections f.head.kind) f.payload x → x ≡ f.payload
  file_kept f (File name kind attributes c) x means lost =
      data_kept (holds_sections f.head.kind) f.head.kind f.payload x c refl (rw means.1 at means.3) lost

  files_kept : (fs : List FileForm) (ms : List FileMeaning) (b o : List ℕ) → AllByRecursion (HasDataIn b) fs
      → Pairwise (MeansFile (Stream n)) fs ms → EachFileLoses stream fs b o → o ≡ b
  files_kept [] ms b o there means same = same
  files_kept (f ∷ fs) [] b o there means lost = absurd means
  files_kept (f ∷ fs) (m ∷ ms) b o there means (w, change, more) =
      let here : field (data_place f) (length f.payload) b ≡ f.payload = there.0.1 in
      let same : w ≡ b = part_same (DataLose stream (holds_sections f.head.kind)) (data_place f) (length f.payload) b w
      (λ x lost. file_kept f m x means.0 (subst (λ (l : List ℕ). DataLose stream (holds_sections f.head.kind) l x) here lost) ∙ sym here) change in
      files_kept fs ms b o there.1 means.1 (subst (λ (l : List ℕ). EachFileLoses stream fs l o) same more)

  module _ (k : ℕ) (b : List ℕ) (v : Meaning) (within : k ≤ length b) (d : Denotes n (take k b) v) where
    abbrev e : Extent
    e = d.extent

    begins : BeginsVolume (head_of v) e b
    begins = (front_of n k b v within d).0

    long : e.length ≡ k
    long = (front_of n k b v within d).1

    tiles : Tiles e.file_system e.polarity e.first d.cells (field e.first (e.length - e.first) b)
    tiles = subst (λ (l : List ℕ). Tiles e.file_system e.polarity e.first d.cells l) body d.tiles where
      body : drop e.first (take k b) ≡ field e.first (e.length - e.first) b
      body = ap (λ (i : ℕ). drop e.first (take i b)) (omega (arith, (first_lies b (head_of v) e begins).1, long))
          ∙ drop-take e.first (e.length - e.first) b

    own_kept : (o : List ℕ) → LosesOwn b o → o ≡ b
    own_kept o (inl (none, same)) = same
    own_kept o (inr (x, body, u, last)) = u.text ∙ whole where
      one : x ≡ e
      one = (one_front b u.head (head_of v) x e u.begins begins).1

      none : (places : List ℕ) (r : List ℕ) → Unmarks e.file_system e.polarity e.first places (field e.first (e.length - e.first) b) r
          → r ≡ field e.first (e.length - e.first) b
      none [] r same = same
      none (p ∷ ps) r marks = absurd (none_after First e.file_system e.polarity e.first (field e.first (e.length - e.first) b) _ d.cells marks.0 tiles)

      same : body ≡ field e.first (e.length - e.first) b
      same = none u.places body (subst (λ (y : Extent). Unmarks y.file_system y.polarity y.first u.places (field y.first (y.length - y.first) b) body) one u.marks)

      low : e.first ≤ e.length
      low = (first_lies b (head_of v) e begins).1

      whole : take x.first b ++ (body ++ drop x.length b) ≡ b
      whole =
          ap (λ (y : Extent). take y.first b ++ (body ++ drop y.length b)) one
          ∙ ap (λ (l : List ℕ). take e.first b ++ (l ++ drop e.length b)) same
          ∙ ap (λ (i : ℕ). take e.first b ++ (field e.first (e.length - e.first) b ++ drop i b)) (omega (arith, low))
          ∙ three_parts e.first (e.length - e.first) b

    begins_with : BeginWithFiles b d.files
    begins_with = (
      head_of v,
      e,
      begins,
      subst (λ (i : ℕ). AreFilesOf e (take i b) d.files) (sym long)
          (record { cells = d.cells; tiles = d.tiles; current = d.current }),
    )

    pub volume_kept : (o : List ℕ) → VolumeLoses stream b o → o ≡ b
    volume_kept o (m, own, lost) = inside (subst (λ (l : List ℕ). FilesLose stream l o) (own_kept m own) lost) where
      inside : FilesLose stream b o → o ≡ b
      inside (inl (none, same)) = same
      inside (inr (files, begun, each)) =
          files_kept d.files (files_of v) b o (begun_data b d.files begins_with) d.meanings
          (subst (λ (fs : List FileForm). EachFileLoses stream fs b o) (one_files b d.files files begins_with begun) each)

-- ---- the recursion

-- if no level is left, a body stays the same
none_left : (shape : Shape) (b o : List ℕ) → BodyLoses 0 shape b o → o ≡ b
none_left shapes.Leaf b o same = same
none_left shapes.Group b o same = same
none_left shapes.Volume b o same = same

-- a group that was read stays the same, if the bodies in it do
group_kept : (k n : ℕ) → ((i : ℕ) → BodiesStay i (BodyLoses k)) → (f : FrameForm) (s : SectionMeaning) (x : List ℕ) → f.kind ≡ group_kind
    → MeansSection n f s → StreamLoses (BodyLoses k) f.body x → x ≡ f.body
group_kept k n stay f (Section kind extended (Leaf b)) x is means lost = absurd (no_leaf n means) where
  no_leaf : (n : ℕ) → MeansSection n f (Section kind extended (Leaf b)) → ⊥
  no_leaf zero m = m.2.0 is
  no_leaf (suc n) m = m.2.0 is
group_kept k n stay f (Section kind extended (Nested v)) x is means lost = absurd (no_volume n means) where
  no_volume : (n : ℕ) → MeansSection n f (Section kind extended (Nested v)) → ⊥
  no_volume zero m = group_is_no_volume f is m.2.0
  no_volume (suc n) m = group_is_no_volume f is m.2.0
group_kept k zero stay f (Section kind extended (Group ss t)) x is means lost = absurd means.2.1
group_kept k (suc i) stay f (Section kind extended (Group ss t)) x is means lost =
    stream_kept i (BodyLoses k) (stay i) (sections_list ss) t f.body x means.2.1 lost

-- an opened volume that was read stays the same, if the bodies in it do
opened_kept : (k n : ℕ) → ((i : ℕ) → BodiesStay i (BodyLoses k)) → (f : FrameForm) (s : SectionMeaning) (x : List ℕ) → f.kind ≡ volume_kind
    → Opens f.body → MeansSection n f s → VolumeLoses (StreamLoses (BodyLoses k)) f.body x → x ≡ f.body
opened_kept k n stay f (Section kind extended (Leaf b)) x is opens means lost = absurd (no_leaf n means) where
  no_leaf : (n : ℕ) → MeansSection n f (Section kind extended (Leaf b)) → ⊥
  no_leaf zero m = m.2.1 is opens
  no_leaf (suc n) m = m.2.1 is opens
opened_kept k n stay f (Section kind extended (Group ss t)) x is opens means lost = absurd (no_group n means) where
  no_group : (n : ℕ) → MeansSection n f (Section kind extended (Group ss t)) → ⊥
  no_group zero m = group_is_no_volume f m.2.0 is
  no_group (suc n) m = group_is_no_volume f m.2.0 is
opened_kept k zero stay f (Section kind extended (Nested v)) x is opens means lost = absurd means.2.2
opened_kept k (suc i) stay f (Section kind extended (Nested v)) x is opens means lost =
    volume_kept i (StreamLoses (BodyLoses k)) (stream_kept i (BodyLoses k) (stay i)) (length f.body) f.body v (omega arith)
    (subst (λ (l : List ℕ). Denotes i l v) (sym (take_all (length f.body) f.body (omega arith))) means.2.2) x lost

shape_kept : (k n : ℕ) → ((i : ℕ) → BodiesStay i (BodyLoses k)) → (f : FrameForm) (s : SectionMeaning) (x : List ℕ) (shape : Shape)
    → shape_of f ≡ shape → MeansSection n f s → BodyLoses (suc k) shape f.body x → x ≡ f.body
shape_kept k n stay f s x shapes.Leaf is means lost = lost
shape_kept k n stay f s x shapes.Group is means lost = group_kept k n stay f s x (group_shape f is) means lost
shape_kept k n stay f s x shapes.Volume is means lost =
    let open_is = volume_shape f is in
    opened_kept k n stay f s x open_is.kind open_is.opens means lost

-- the body of a section that was read stays the same
pub body_kept : (k n : ℕ) → BodiesStay n (BodyLoses k)
body_kept zero n f s x means lost = none_left (shape_of f) f.body x lost
body_kept (suc k) n f s x means lost = shape_kept k n (body_kept k) f s x (shape_of f) refl means lost

-- ---- what is accepted

-- a stream that is accepted stays the same
pub accepted_stream : (k n : ℕ) (ss : List SectionMeaning) (t : ℕ) (b o : List ℕ) → Stream n ss t b → StreamLoses (BodyLoses k) b o → o ≡ b
accepted_stream k n = stream_kept n (BodyLoses k) (body_kept k n)

-- bytes that begin with a volume that is accepted stay the same
pub accepted_volume : (k n i : ℕ) (b o : List ℕ) (v : Meaning) → i ≤ length b → Denotes n (take i b) v
    → VolumeLoses (StreamLoses (BodyLoses k)) b o → o ≡ b
accepted_volume k n i b o v within d lost =
    volume_kept n (StreamLoses (BodyLoses k)) (accepted_stream k n) i b v within d o lost
