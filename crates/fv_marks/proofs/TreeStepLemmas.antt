-- The steps of the walks that take marks away at every depth: a section of a stream (`section_on`), and a file of a
-- volume (`file_on`), whose data change (`data_on`) or not (`data_stay`). Each step changes a part of the bytes, so only
-- marks change (`only_on`).
use Rattle.std.proofs.Common.{◌≡◌, ◌≤◌, ◌<◌, ℕ, zero, suc, ◌+◌, ◌-◌, [], ◌∷◌, ◌++◌, length-take, get_or}
use Rattle.fv_base.proofs.Laws.{List, length, take, drop, refl, sym, ap, ◌∙◌, subst, arith, map, field, true, false, drop_more, get_or-map}
use Rattle.fv_base.proofs.Laws.{length-drop, length-map, common_steps, drop-drop, at_index, AllByRecursion}
use Rattle.fv_section.specs.Words.{FrameForm, HasFrameAt, frame_len, up_to_4}
use Rattle.fv_tree.specs.Words.{FileForm, HasDataIn, body_place, data_place, holds_sections, shape_of}
use Rattle.fv_tree.specs.declared.shape.Shape.{Shape}
use Rattle.fv_tree.specs.declared.shape.Shape.TheVariants as shapes
use Rattle.fv_marks.specs.Words.{BodyLoses, ChangesPart, EachFileLoses, FramesLose, Loses, OnlyMarksChange, StreamLoses, VolumeLoses}
use Rattle.fv_marks.specs.Words.{DataLose}
use Rattle.fv_tree.specs.Words.{bare_form, file_form}
use Rattle.fv_tree.specs.declared.volume_files.LocatedFile.{LocatedFile}
use Rattle.fv_tree.proofs.Laws.{no_file}
use Rattle.fv_marks.specs.inner.MarkSteps.{IsSection}
use Rattle.fv_marks.specs.declared.section.Section.{Section}
use Rattle.fv_marks.proofs.PartLemmas.{only_part, only_then, three_parts}

-- the bytes b, in which the n bytes at the offset p became x
abbrev pub with_part : ℕ → ℕ → List ℕ → List ℕ → List ℕ
with_part p n b x = take p b ++ (x ++ drop n (drop p b))

with_part_is : (p n : ℕ) (b x : List ℕ) → with_part p n b x ≡ take p b ++ (x ++ drop (p + n) b)
with_part_is p n b x = ap (λ (l : List ℕ). take p b ++ (x ++ l)) (drop-drop n p b ∙ ap (λ (i : ℕ). drop i b) (omega arith))

-- only marks change
pub only_on : (p n : ℕ) (b0 b x : List ℕ) → OnlyMarksChange b0 b → OnlyMarksChange (field p n b) x → OnlyMarksChange b0 (with_part p n b x)
only_on p n b0 b x before inside =
    subst (λ (l : List ℕ). OnlyMarksChange b0 l) (sym (with_part_is p n b x))
    (only_then b0 b (take p b ++ (x ++ drop (p + n) b)) before (only_part p n b x inside))

-- ---- a stream

module _ (inside : Shape → Loses) (b0 b : List ℕ) (at : ℕ)
    (so_far : (frames : List FrameForm) (o : List ℕ) → FramesLose inside frames at b o → StreamLoses inside b0 o) where
  pub section_on : (s : Section) (f : FrameForm) (x : List ℕ) → HasFrameAt f at b → IsSection f s
      → inside s.shape (field s.start (s.end - s.start) b) x → (frames : List FrameForm) (o : List ℕ)
      → FramesLose inside frames s.next (with_part s.start (s.end - s.start) b x) o → StreamLoses inside b0 o
  section_on s f x here is lost frames o more =
      let n : s.end - s.start ≡ length f.body = omega (arith, is.end) in
      let next : s.next ≡ up_to_4 (at + frame_len f) = is.next ∙ ap (λ (i : ℕ). up_to_4 (i + frame_len f)) here.offset in
      let change : ChangesPart (inside (shape_of f)) (body_place f) (length f.body) b (with_part s.start (s.end - s.start) b x) =
      rw (← is.shape_is, ← n, ← is.start) (x, lost, with_part_is s.start (s.end - s.start) b x) in
      so_far (f ∷ frames) o (
        here,
        (
          with_part s.start (s.end - s.start) b x,
          change,
          subst (λ (i : ℕ). FramesLose inside frames i (with_part s.start (s.end - s.start) b x) o) next more,
        ),
      )

-- ---- files

-- the number of bytes of a file's data depends only on the number of bytes that they are in
pub data_length : (b0 b : List ℕ) (s : LocatedFile) → length b ≡ length b0
    → length (file_form b s).payload ≡ length (file_form b0 s).payload
data_length b0 b s same = grind (arith, common_steps, length-take, length-drop)

module _ (stream : Loses) (b0 b : List ℕ) (ss : List LocatedFile) (i : ℕ) (inside : i < length ss) (same : length b ≡ length b0)
    (so_far : (o : List ℕ) → EachFileLoses stream (drop i (map (file_form b0) ss)) b o → EachFileLoses stream (map (file_form b0) ss) b0 o) where
  abbrev this : LocatedFile
  this = get_or ss i no_file

  next : drop i (map (file_form b0) ss) ≡ file_form b0 this ∷ drop (i + 1) (map (file_form b0) ss)
  next = drop_more (map (file_form b0) ss) i (file_form b0 no_file) (omega (arith, inside, length-map ss (file_form b0)))
      ∙ ap (λ (f : FileForm). f ∷ drop (i + 1) (map (file_form b0) ss)) (get_or-map (file_form b0) ss i no_file (file_form b0 no_file) inside)

  pub file_on : (m : List ℕ) → ChangesPart (DataLose stream (holds_sections this.kind)) (data_place (bare_form this)) (length (file_form b this).payload) b m
      → (o : List ℕ) → EachFileLoses stream (drop (i + 1) (map (file_form b0) ss)) m o → EachFileLoses stream (map (file_form b0) ss) b0 o
  file_on m change o more =
      so_far o (subst (λ (fs : List FileForm). EachFileLoses stream fs b o) (sym next) (
        m,
        subst (λ (n : ℕ). ChangesPart (DataLose stream (holds_sections this.kind)) (data_place (bare_form this)) n b m) (data_length b0 b this same) change,
        more,
      ))

  pub file_within : AllByRecursion (λ f. data_place f + length f.payload ≤ length b0) (map (file_form b0) ss)
      → data_place (bare_form this) + length (file_form b this).payload ≤ length b
  file_within all =
      let here : data_place (bare_form this) + length (file_form b0 this).payload ≤ length b0 =
      subst (λ (f : FileForm). data_place f + length f.payload ≤ length b0) (get_or-map (file_form b0) ss i no_file (file_form b0 no_file) inside)
      (at_index (λ f. data_place f + length f.payload ≤ length b0) (map (file_form b0) ss) i (file_form b0 no_file) all
      (omega (arith, inside, length-map ss (file_form b0)))) in
      omega (arith, here, data_length b0 b this same, same)

-- the data of a file stay the same if its type does not hold sections
pub data_stay : (stream : Loses) (kind p n : ℕ) (b : List ℕ) → holds_sections kind ≡ false
    → ChangesPart (DataLose stream (holds_sections kind)) p n b b
data_stay stream kind p n b none = rw none (field p n b, refl, sym (three_parts p n b))

pub data_on : (stream : Loses) (kind p n : ℕ) (b x : List ℕ) → holds_sections kind ≡ true → stream (field p n b) x
    → ChangesPart (DataLose stream (holds_sections kind)) p n b (with_part p n b x)
data_on stream kind p n b x holds lost = rw holds (x, lost, with_part_is p n b x)

-- data that are in some bytes lie within them
pub data_within : (b : List ℕ) (fs : List FileForm) → AllByRecursion (HasDataIn b) fs
    → AllByRecursion (λ f. data_place f + length f.payload ≤ length b) fs
data_within b [] h = tt
data_within b (f ∷ fs) h = (h.0.0, data_within b fs h.1)

-- ---- a level

pub group_lost : (n : ℕ) (b o : List ℕ) → (n ≡ 0 → ⊥) → StreamLoses (BodyLoses (n - 1)) b o → BodyLoses n shapes.Group b o
group_lost zero b o some lost = absurd (some refl)
group_lost (suc n) b o some lost = let less : suc n - 1 ≡ n = omega arith in rw less at lost

pub opened_lost : (n : ℕ) (b o : List ℕ) → (n ≡ 0 → ⊥) → VolumeLoses (StreamLoses (BodyLoses (n - 1))) b o
    → BodyLoses n shapes.Volume b o
opened_lost zero b o some lost = absurd (some refl)
opened_lost (suc n) b o some lost = let less : suc n - 1 ≡ n = omega arith in rw less at lost
