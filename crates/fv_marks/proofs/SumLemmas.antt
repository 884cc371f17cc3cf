-- If marks are taken away, the bytes keep their number and their sum modulo 256 (`body_sum`, `volume_sum`, `stream_sum`),
-- so a file checksum over them stays right.
use Rattle.std.proofs.Common.{◌≡◌, ◌≤◌, ◌<◌, ℕ, zero, suc, ◌+◌, ◌-◌, ◌%◌, [], ◌∷◌, ◌++◌, sum}
use Rattle.fv_base.proofs.Laws.{List, length, take, drop, refl, sym, ap, ◌∙◌, subst, arith, field, inl, inr, true, false, Bool, slice_index, slice_set}
use Rattle.fv_base.proofs.Laws.{length-append, length-drop, get_or-drop, get_or-set_other, length-set, outer_fault, sum_by-append}
use Rattle.std.proofs.lemmas.List.Sums.{sum_by-set}
use Rattle.fv_base.specs.declared.fault.Fault.{Fault}
use Rattle.fv_base.specs.declared.fault.FaultKind.TheVariants as kinds
use Rattle.fv_base.specs.declared.flash.FileSystem.{FileSystem}
use Rattle.fv_base.specs.declared.flash.Polarity.{Polarity}
use Rattle.fv_file.specs.Words.{IsFirstCellFault, Unmarks, unmarked}
use Rattle.fv_file.proofs.Laws.{fixed_least, length-unmarked}
use Rattle.fv_head.proofs.Laws.{first_lies}
use Rattle.fv_section.specs.Words.{FrameForm}
use Rattle.fv_tree.specs.Words.{FileForm, data_place, holds_sections, shape_of}
use Rattle.fv_tree.specs.declared.shape.Shape.{Shape}
use Rattle.fv_tree.specs.declared.shape.Shape.TheVariants as shapes
use Rattle.fv_marks.specs.Words.{BodyLoses, ChangesPart, DataLose, EachFileLoses, FilesLose, FramesLose, Loses, LosesOwn, StreamLoses}
use Rattle.fv_marks.specs.Words.{VolumeLoses}
use Rattle.fv_marks.proofs.OwnMarkLemmas.{next_fixed}
use Rattle.fv_marks.proofs.PartLemmas.{three_parts}

-- o has as many bytes as b, and the same sum modulo 256
abbrev pub KeepsSum : Loses
KeepsSum b o = (length o ≡ length b) × (sum o % 256 ≡ sum b % 256)

-- bytes that change as `loses` relates them keep their number and their sum
abbrev pub SumsStay : Loses → Type 0
SumsStay loses = (b o : List ℕ) → loses b o → KeepsSum b o

sum_same : (b o : List ℕ) → o ≡ b → KeepsSum b o
sum_same b o same = (ap length same, ap (λ (l : List ℕ). sum l % 256) same)

sum_then : (b m o : List ℕ) → KeepsSum b m → KeepsSum m o → KeepsSum b o
sum_then b m o u v = (v.0 ∙ u.0, v.1 ∙ u.1)

sum_joined : (x y : List ℕ) → sum (x ++ y) ≡ sum x + sum y
sum_joined x y = sum_by-append (λ (n : ℕ). n) x y

-- ---- a part

sum_inside : (x y z y' : List ℕ) → KeepsSum y y' → KeepsSum (x ++ (y ++ z)) (x ++ (y' ++ z))
sum_inside x y z y' k = (
  omega (arith, k.0, length-append x (y ++ z), length-append x (y' ++ z), length-append y z, length-append y' z),
  omega (arith, k.1, sum_joined x (y ++ z), sum_joined x (y' ++ z), sum_joined y z, sum_joined y' z),
)

pub sum_part : (loses : Loses) (p n : ℕ) (b o : List ℕ) → SumsStay loses → ChangesPart loses p n b o → KeepsSum b o
sum_part loses p n b o stay (x, change, text) =
    subst (λ (l : List ℕ). KeepsSum b l) (sym text)
    (subst (λ (l : List ℕ). KeepsSum l (take p b ++ (x ++ drop (p + n) b))) (three_parts p n b)
    (sum_inside (take p b) (field p n b) (drop (p + n) b) x (stay (field p n b) x change)))

-- ---- a mark

set_sum : (b : List ℕ) (i v : ℕ) → i < length b → sum (slice_set b i v) + slice_index b i ≡ sum b + v
set_sum b i v l = sum_by-set (λ (n : ℕ). n) b i v 0 l

mark_sum : (p : ℕ) (b : List ℕ) → p + 24 ≤ length b → 4 ≤ slice_index b (p + 19) → KeepsSum b (unmarked p b)
mark_sum p b within least =
    let v : ℕ = (slice_index b (p + 16) + 4) % 256 in
    let c : List ℕ = slice_set b (p + 16) v in
    let one = set_sum b (p + 16) v (omega (arith, within)) in
    let two = set_sum c (p + 19) (slice_index b (p + 19) - 4) (omega (arith, within, length-set b (p + 16) v)) in
    let byte : slice_index c (p + 19) ≡ slice_index b (p + 19) = get_or-set_other b (p + 16) (p + 19) v 0 (λ e. omega (arith, e)) in
    (length-unmarked p b, omega (arith, one, two, byte, least))

module _ (s : FileSystem) (p : Polarity) (first : ℕ) where
  one_sum : (q : ℕ) (b : List ℕ) → IsFirstCellFault s p first b (outer_fault kinds.Fixed (first + q + 19)) → KeepsSum b (unmarked q b)
  one_sum q b x =
      let there = next_fixed s p (first + x.at) (drop x.at b) _ (x.not_erased, x.fails) refl in
      let place : x.at ≡ q = omega (arith, ap (λ (f : Fault). f.place.offset) there.file.fault) in
      let least : 4 ≤ slice_index (drop x.at b) 19 = fixed_least _ there.file.fixed in
      mark_sum q b (omega (arith, there.long, length-drop x.at b, x.inside, place))
      (omega (arith, least, get_or-drop x.at b 19 0, ap (λ (n : ℕ). slice_index b (n + 19)) place))

  marks_sum : (ps : List ℕ) (b o : List ℕ) → Unmarks s p first ps b o → KeepsSum b o
  marks_sum [] b o same = sum_same b o same
  marks_sum (q ∷ ps) b o marks = sum_then b (unmarked q b) o (one_sum q b marks.0) (marks_sum ps (unmarked q b) o marks.1)

own_sum : SumsStay LosesOwn
own_sum b o (inl (none, same)) = sum_same b o same
own_sum b o (inr (e, body, u, last)) =
    let first = (first_lies b u.head e u.begins).1 in
    let whole : take e.first b ++ (field e.first (e.length - e.first) b ++ drop e.length b) ≡ b =
    ap (λ (n : ℕ). take e.first b ++ (field e.first (e.length - e.first) b ++ drop n b)) (omega (arith, first))
    ∙ three_parts e.first (e.length - e.first) b in
    subst (λ (l : List ℕ). KeepsSum b l) (sym u.text)
    (subst (λ (l : List ℕ). KeepsSum l (take e.first b ++ (body ++ drop e.length b))) whole
    (sum_inside (take e.first b) (field e.first (e.length - e.first) b) (drop e.length b) body
    (marks_sum e.file_system e.polarity e.first u.places (field e.first (e.length - e.first) b) body u.marks)))

-- ---- a volume and a stream

module _ (stream : Loses) (stay : SumsStay stream) where
  pub data_sum : (t : Bool) → SumsStay (DataLose stream t)
  data_sum true b o lost = stay b o lost
  data_sum false b o lost = sum_same b o lost

  files_sum : (fs : List FileForm) → SumsStay (EachFileLoses stream fs)
  files_sum [] b o same = sum_same b o same
  files_sum (f ∷ fs) b o (m, change, more) =
      sum_then b m o
      (sum_part (DataLose stream (holds_sections f.head.kind)) (data_place f) (length f.payload) b m (data_sum (holds_sections f.head.kind)) change)
      (files_sum fs m o more)

  all_sum : SumsStay (FilesLose stream)
  all_sum b o (inl (none, same)) = sum_same b o same
  all_sum b o (inr (files, begun, lost)) = files_sum files b o lost

  pub volume_sum : SumsStay (VolumeLoses stream)
  volume_sum b o (m, own, lost) = sum_then b m o (own_sum b m own) (all_sum m o lost)

module _ (inside : Shape → Loses) (stay : (k : Shape) → SumsStay (inside k)) where
  pub frames_sum : (fs : List FrameForm) (at : ℕ) → SumsStay (FramesLose inside fs at)
  frames_sum [] at b o (none, same) = sum_same b o same
  frames_sum (f ∷ fs) at b o (here, (m, change, more)) =
      sum_then b m o (sum_part (inside (shape_of f)) _ (length f.body) b m (stay (shape_of f)) change) (frames_sum fs _ m o more)

  pub stream_sum : SumsStay (StreamLoses inside)
  stream_sum b o (fs, lost) = frames_sum fs 0 b o lost

-- ---- the recursion

pub body_sum : (n : ℕ) (k : Shape) → SumsStay (BodyLoses n k)
body_sum n shapes.Leaf b o same = sum_same b o same
body_sum zero shapes.Group b o same = sum_same b o same
body_sum zero shapes.Volume b o same = sum_same b o same
body_sum (suc n) shapes.Group b o lost = stream_sum (BodyLoses n) (body_sum n) b o lost
body_sum (suc n) shapes.Volume b o lost = volume_sum (StreamLoses (BodyLoses n)) (stream_sum (BodyLoses n) (body_sum n)) b o lost
