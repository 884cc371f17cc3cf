-- Bytes have at most one first fault. The steps:
-- 1. The names of files have at most one first fault, and so have the cells of a body with the files in them
--    (`names_once`, `stored_once`), also if the fault is moved (`moved_once`).
-- 2. If each section has at most one first fault, then so have a stream, a body and a volume (`stream_once`,
--    `body_once`, `volume_once`).
-- 3. By induction on the nesting depth each section has at most one first fault (`section_once`), and so have bytes
--    that should begin with a volume (`first_once`).
-- 4. So the result of a reader is determined by the bytes (`only_answer`, `one_answer`, `sound_answer`).
use Rattle.std.proofs.Common.{◌≡◌, ◌≢◌, ◌≤◌, ℕ, zero, suc, List, length, take, drop, sym, ◌∙◌, inl, inr, Result, Ok, Err, IfOk}
use Rattle.fv_base.proofs.Laws.{IfErr, First, Any, out_of_memory, depth_limit, none_fails, one_fault}
use Rattle.fv_base.specs.declared.fault.Fault.{Fault}
use Rattle.fv_base.specs.declared.fault.Place.{Place}
use Rattle.fv_file.proofs.Laws.{one_cell_fault, only_one}
use Rattle.fv_head.specs.Words.{head_checks}
use Rattle.fv_head.specs.declared.extent.Extent.{Extent}
use Rattle.fv_head.proofs.Laws.{front_holds, one_front}
use Rattle.fv_section.specs.Words.{FrameForm}
use Rattle.fv_section.proofs.Laws.{one_frame_fault, one_split}
use Rattle.fv_tree.specs.Words.{MeansFile, MeansSection, Stream, Denotes, Moved, NamesFault, StoredFault, FileFault, BodyFault, data_at, outermost}
use Rattle.fv_tree.specs.Words.{InSection, InStream, InVolume, IsFirstOfVolume, FaultHolds, Meaning, length_of, FileForm, files_in, current_in}
use Rattle.fv_tree.specs.inner.ReadingParts.{ReadsOrFails}
use Rattle.fv_tree.proofs.ListPairs.{first_of_once}
use Rattle.fv_tree.proofs.MeaningLaws.{one_beginning}
use Rattle.fv_tree.proofs.NamesFaultLaws.{twin_none}
use Rattle.fv_tree.proofs.RefusalLaws.{stored_by, file_by, section_refuses, stream_refuses, fault_refuses}
use Rattle.fv_tree.proofs.TwinLaws.{one_twin, one_top}
use Rattle.fv_tree.proofs.SectionShapeLaws.{group_is_no_volume}
use Rattle.fv_file.proofs.Laws as cellular
use Rattle.fv_section.proofs.Laws as framed

-- ---- one level of nesting

-- if P holds of at most one fault, at most one fault is a fault of which P holds, moved to this place
moved_once : (P : Fault → Type 0) → ((f g : Fault) → P f → P g → f ≡ g) → (at : Place) (e g : Fault) → Moved at P e → Moved at P g → e ≡ g
moved_once P once at e g (f, p, is) (f', p', is') = cc (once f f' p p')

-- the names of files have at most one first fault
names_once : (len : ℕ) (fs : List FileForm) (e g : Fault) → NamesFault First len fs e → NamesFault First len fs g → e ≡ g
names_once len fs e g (inl (f, twin, is)) (inl (f', twin', is')) = cc (one_twin f f' fs twin twin')
names_once len fs e g (inl (f, twin, is)) (inr (none, _, _, _)) = absurd (twin_none First f fs twin none)
names_once len fs e g (inr (none, _, _, _)) (inl (f, twin, is)) = absurd (twin_none First f fs twin none)
names_once len fs e g (inr (none, f, top, is)) (inr (_, f', top', is')) = cc (one_top len f f' fs none top top')

-- the cells of a body and the files in them have at most one first fault
stored_once : (x : Extent) (volume : List ℕ) (e g : Fault) → StoredFault First x volume e → StoredFault First x volume g → e ≡ g
stored_once x volume e g (inl first) (inl first') = one_cell_fault x.file_system x.polarity x.first (drop x.first volume) e g first first'
stored_once x volume e g (inl first) (inr (cells, tiles, _)) = absurd (cellular.none_after First _ x.polarity x.first _ e cells first tiles)
stored_once x volume e g (inr (cells, tiles, _)) (inl first) = absurd (cellular.none_after First _ x.polarity x.first _ g cells first tiles)
stored_once x volume e g (inr (cells, tiles, names)) (inr (others, tiles', names')) =
    names_once x.length (files_in cells) e g names (rw (only_one x.file_system x.polarity x.first _ cells others tiles tiles') at names')

-- ---- a stream and a volume, given the same of their sections

-- at one level of nesting, a section has at most one first fault
abbrev SectionOnce : ℕ → Type 0
SectionOnce n = (e g : Fault) (f : FrameForm) (at : Place) → InSection First n e f at → InSection First n g f at → e ≡ g

-- at one level of nesting, a stream has at most one first fault
abbrev StreamOnce : ℕ → Type 0
StreamOnce n = (e g : Fault) (b : List ℕ) (at : Place) → InStream First n e b at → InStream First n g b at → e ≡ g

stream_once : (n : ℕ) → SectionOnce n → StreamOnce n
stream_once n once e g b at (inl moved) (inl moved') = moved_once _ (one_frame_fault b) at e g moved moved'
stream_once n once e g b at (inl (f, first, is)) (inr (frames, tail, split, _)) = absurd (framed.none_after First b f frames tail first split)
stream_once n once e g b at (inr (frames, tail, split, _)) (inl (f, first, is)) = absurd (framed.none_after First b f frames tail first split)
stream_once n once e g b at (inr (frames, tail, split, first)) (inr (others, tail', split', first')) =
    let one = first_of_once (MeansSection n) (λ f. InSection First n e f at) (λ f. InSection First n g f at) frames
    (λ f s. section_refuses First n e f at s) (λ f s. section_refuses First n g f at s) first
    (rw (one_split 0 others frames tail' tail b split' split).0 at first') in
    once e g one.0 at one.1 one.2

module _ (n : ℕ) (once : StreamOnce n) (e g : Fault) (at : Place) where
  -- a body has at most one first fault
  body_once : (x : Extent) (volume : List ℕ) → BodyFault First n (InStream First n) x e volume at
      → BodyFault First n (InStream First n) x g volume at → e ≡ g
  body_once x volume (inl moved) (inl moved') = moved_once _ (stored_once x volume) at e g moved moved'
  body_once x volume (inl (f, first, is)) (inr (cells, tiles, right, _)) =
      absurd (stored_by First x volume f cells first tiles right)
  body_once x volume (inr (cells, tiles, right, _)) (inl (f, first, is)) =
      absurd (stored_by First x volume f cells first tiles right)
  body_once x volume (inr (cells, tiles, right, first)) (inr (others, tiles', right', first')) =
      let one = first_of_once (MeansFile (Stream n)) (λ f. FileFault (InStream First n) e f at) (λ f. FileFault (InStream First n) g f at)
      (current_in (files_in cells)) (file_by First n (stream_refuses First n) e at) (file_by First n (stream_refuses First n) g at) first
      (rw (only_one x.file_system x.polarity x.first _ cells others tiles tiles') at first') in
      once e g (one.0).payload (data_at at one.0) one.1.1 one.2.1

  -- bytes have at most one first fault as a volume
  volume_once : (b : List ℕ) → InVolume First n e b at → InVolume First n g b at → e ≡ g
  volume_once b (inl moved) (inl moved') = moved_once _ (one_fault (head_checks b)) at e g moved moved'
  volume_once b (inl (f, first, is)) (inr (h, x, front, _)) =
      absurd (none_fails First (head_checks b) f first (front_holds b h x front))
  volume_once b (inr (h, x, front, _)) (inl (f, first, is)) = absurd (none_fails First (head_checks b) f first (front_holds b h x front))
  volume_once b (inr (h, x, front, first)) (inr (h', x', front', first')) =
      body_once x (take x.length b) first (rw (one_front b h' h x' x front' front).1 at first')

-- ---- the recursion

-- a section has at most one first fault
section_once : (n : ℕ) → SectionOnce n
section_once zero e g f at (_, is) (_, is') = is ∙ sym is'
section_once (suc n) e g f at (inl (group, first)) (inl (_, first')) = stream_once n (section_once n) e g f.body _ first first'
section_once (suc n) e g f at (inl (group, _)) (inr (kind, opens, _)) = absurd (group_is_no_volume f group kind)
section_once (suc n) e g f at (inr (kind, opens, _)) (inl (group, _)) = absurd (group_is_no_volume f group kind)
section_once (suc n) e g f at (inr (kind, opens, first)) (inr (_, _, first')) =
    volume_once n (stream_once n (section_once n)) e g _ f.body first first'

-- bytes have at most one first fault as a volume, at every level
pub first_once : (n : ℕ) (e g : Fault) (b : List ℕ) (at : Place) → InVolume First n e b at → InVolume First n g b at → e ≡ g
first_once n e g b at = volume_once n (stream_once n (section_once n)) e g at b

-- bytes have at most one first fault as a stream, at every level
pub stream_first_once : (n : ℕ) (e g : Fault) (b : List ℕ) (at : Place) → InStream First n e b at → InStream First n g b at → e ≡ g
stream_first_once n e g b at = stream_once n (section_once n) e g b at

-- ---- the result of reading bytes as a volume

abbrev VolumeIsRead : List ℕ → Result (Meaning × ℕ) Fault → Type 0
VolumeIsRead b r = ReadsOrFails (λ v. Denotes depth_limit (take v.1 b) v.0) (IsFirstOfVolume b) r

-- if a volume was read, the bytes begin with no other volume
pub only_answer : (b : List ℕ) (r : Result (Meaning × ℕ) Fault) → VolumeIsRead b r → IfOk r (λ v. (v.1 ≡ length_of v.0) × (v.1 ≤ length b))
    → IfOk r (λ v. (n : ℕ) (m : Meaning) → n ≤ length b → Denotes depth_limit (take n b) m → (m ≡ v.0) × (n ≡ v.1))
only_answer b (Ok v) read within = λ n m in_bytes d. one_beginning depth_limit n v.1 b m v.0 in_bytes d within.1 read
only_answer b (Err g) read within = tt

-- if the bytes have a first fault, the result is this fault, or memory ran out
pub one_answer : (b : List ℕ) (r : Result (Meaning × ℕ) Fault) → VolumeIsRead b r → IfOk r (λ v. (v.1 ≡ length_of v.0) × (v.1 ≤ length b))
    → (f : Fault) → IsFirstOfVolume b f → IfOk r (λ v. ⊥) × IfErr r (λ g. g ≢ out_of_memory → g ≡ f)
one_answer b (Ok v) read within f is = (fault_refuses First depth_limit v.1 f b outermost v.0 within.1 is read, tt)
one_answer b (Err g) read within f is = (tt, λ ne. first_once depth_limit g f b outermost (read ne) is)

-- if the condition of a fault holds in the bytes, no volume was read
pub sound_answer : (b : List ℕ) (r : Result (Meaning × ℕ) Fault) → VolumeIsRead b r
    → IfOk r (λ v. (v.1 ≡ length_of v.0) × (v.1 ≤ length b)) → (f : Fault) → FaultHolds b f → IfOk r (λ v. ⊥)
sound_answer b (Ok v) read within f bad = fault_refuses Any depth_limit v.1 f b outermost v.0 within.1 bad read
sound_answer b (Err g) read within f bad = tt
